-- Senders and their texts (RFC 5321, 4.5.5: notices are sent from the null sender).
use Rattle.std.specs.Prelude.{ℕ, List, [], ◌∷◌, Result, Ok}
use Rattle.hq_values.specs.Readers.{seen_by}
use Rattle.hq_values.specs.declared.failure.Refusal.{Refusal}
use Rattle.hq_values.specs.Addresses.{address_in}
use Rattle.hq_values.specs.declared.address.Sender.{Sender}
use Rattle.hq_values.specs.declared.address.Sender.TheVariants.{Null, From}

-- the sender that a text is: the empty text is the null sender, any other an address
abbrev pub sender_in : List ℕ → Result Sender Refusal
sender_in [] = Ok Null
sender_in (b ∷ bytes) = seen_by (λ address. From address) (address_in (b ∷ bytes))

abbrev pub sender_text : Sender → List ℕ
sender_text Null = []
sender_text (From address) = address
