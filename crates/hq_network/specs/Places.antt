-- The place at which a server listens: which text names it, and what is told of it.
use Rattle.std.specs.Prelude.{◌≡◌, ◌⊎◌, ⊤, ℕ, List, [], ◌∷◌, ◌++◌, codes}
use Rattle.std.specs.Net.Grammar.{IsSocketText}
use Rattle.std.specs.Net.Socket.{socket_ip, socket_port}
use Rattle.std.specs.Net.Text.{socket_text}
use Rattle.std.specs.declared.net.socket_addr.SocketAddr.{SocketAddr}
use Rattle.hq_network.specs.declared.places.Place.{Place}
use Rattle.hq_network.specs.declared.places.Place.TheVariants.{Address, Path}
use Rattle.hq_network.specs.declared.sockets.HostListener.{HostListener}
use Rattle.hq_network.specs.declared.sockets.HostListener.TheVariants as listener

-- the address that was bound is the one that was asked for; of the port 0 it is at any port
abbrev pub IsBoundFor : SocketAddr → SocketAddr → Type 0
IsBoundFor asked bound = (socket_ip bound ≡ socket_ip asked)
    × ((socket_port asked ≡ 0) ⊎ (socket_port bound ≡ socket_port asked))

-- A text names a place: `unix:` and a path that path, and the text of an address the one bound for
-- it.
abbrev pub IsPlaceOf : List ℕ → Place → Type 0
IsPlaceOf text (Address bound) = (asked : SocketAddr) × IsSocketText text asked
    × IsBoundFor asked bound
IsPlaceOf text (Path path) = text ≡ codes "unix:" ++ path.now

-- a socket is of the kind of its place
abbrev pub IsSocketOf : Place → HostListener → Type 0
IsSocketOf (Address bound) (listener.Tcp socket) = ⊤
IsSocketOf (Path path) (listener.Unix socket) = ⊤
IsSocketOf _ _ = ⊥

-- the text of a place: an address, or a path
abbrev pub place_text : Place → List ℕ
place_text (Address address) = socket_text address
place_text (Path path) = codes "unix:" ++ path.now

-- the line that tells a place, with the LF (10) at its end
abbrev pub place_line : Place → List ℕ
place_line place = codes "listening on " ++ place_text place ++ 10 ∷ []
