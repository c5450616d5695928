-- What the replies of a session tell.
use Rattle.std.specs.Prelude.{⊤}
use Rattle.std.proofs.Common.{◌≡◌, ◌⊎◌, inl, inr, ⊎_elim, List, [], ◌∷◌, map, subst}
use Rattle.std.specs.List.{AllZip}
use Rattle.hq_requests.specs.declared.directory.Directory.{Directory}
use Rattle.hq_requests.specs.declared.exchanges.Exchange.{Exchange}
use Rattle.hq_wire.specs.Exchanges.{Ask, Tells, ask_of}
use Rattle.hq_wire.specs.Replies.{IsSent, SeenReply}
use Rattle.hq_requests.specs.declared.reply.Reply.{Reply}
use Rattle.hq_across.specs.Histories.{Session}
use Rattle.hq_sql_across.specs.Stopped.{IsServed, IsReplyTo}

each : (d : Directory) (xs : List Exchange) (replies : List Reply) (rs : List SeenReply) →
    AllZip IsSent replies rs → AllZip (Tells (λ fault. ⊤) d) (map (ask_of d) xs) rs →
    AllZip (IsReplyTo d) xs replies
each d [] [] rs sent tells = tt
each d [] (reply ∷ replies) [] sent tells = absurd sent
each d [] (reply ∷ replies) (r ∷ rs) sent tells = absurd tells
each d (x ∷ xs) [] [] sent tells = absurd tells
each d (x ∷ xs) [] (r ∷ rs) sent tells = absurd sent
each d (x ∷ xs) (reply ∷ replies) [] sent tells = absurd sent
each d (x ∷ xs) (reply ∷ replies) (r ∷ rs) sent tells =
    ((r, sent.0, tells.0), each d xs replies rs sent.1 tells.1)

pub replied : (d : Directory) (exchanges : List Exchange) (replies : List Reply) (s : Session) →
    IsServed d exchanges replies s → (replies ≡ []) ⊎ AllZip (IsReplyTo d) exchanges replies
replied d exchanges replies s served = ⊎_elim
    (λ (all : s.asked ≡ map (ask_of d) exchanges). inr (each d exchanges replies s.replies
    served.told (subst (λ (asks : List Ask). AllZip (Tells (λ fault. ⊤) d) asks s.replies) all
    served.tells)))
    (λ (none : (s.asked ≡ []) × (replies ≡ [])). inl none.1) served.asked
