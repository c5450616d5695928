-- The rules of names, keys and texts, by their bytes. The limits are this product's own.
use Rattle.std.specs.Prelude.{ℕ, Bool, ◌&&◌, ◌||◌, ◌==◌, nat_lt, nat_le, List, length, codes}
use Rattle.std.specs.Prelude.{Result}
use Rattle.std.specs.List.{list_all}
use Rattle.hq_values.specs.Readers.{checked}
use Rattle.hq_values.specs.declared.failure.Refusal.{Refusal}
use Rattle.hq_values.specs.declared.failure.Refusal.TheVariants.{BadField, BadSpool, BadLabel}
use Rattle.hq_values.specs.declared.failure.Refusal.TheVariants.{BadText, BadHost}
use Rattle.hq_values.specs.Addresses.{is_letter_or_digit, is_domain, most_address_bytes}

-- a letter, a digit, '.', '-' or '_'
abbrev pub is_spool_byte : ℕ → Bool
is_spool_byte b = is_letter_or_digit b || b == 46 || b == 45 || b == 95

-- a spool name, and an import's label: 1 to 64 bytes
abbrev pub is_spool : List ℕ → Bool
is_spool bytes = nat_lt 0 (length bytes) && nat_le (length bytes) 64 && list_all is_spool_byte bytes

-- a lower-case letter, a digit or '-'
abbrev pub is_name_byte : ℕ → Bool
is_name_byte b = (nat_le 97 b && nat_le b 122) || (nat_le 48 b && nat_le b 57) || b == 45

-- a customer's name: 1 to 32 bytes
abbrev pub is_name : List ℕ → Bool
is_name bytes = nat_lt 0 (length bytes) && nat_le (length bytes) 32 && list_all is_name_byte bytes

abbrev pub is_key_byte : ℕ → Bool
is_key_byte b = is_letter_or_digit b

-- a key: 16 to 64 letters and digits
abbrev pub is_key : List ℕ → Bool
is_key bytes = nat_le 16 (length bytes) && nat_le (length bytes) 64 && list_all is_key_byte bytes

-- the relay's own name: a domain of at most 254 bytes
abbrev pub is_host : List ℕ → Bool
is_host bytes = nat_le (length bytes) most_address_bytes && is_domain bytes

-- printable ASCII and the space
abbrev pub is_text_byte : ℕ → Bool
is_text_byte b = nat_le 32 b && nat_le b 126

-- a text: at most 1,000 bytes
abbrev pub is_text : List ℕ → Bool
is_text bytes = nat_le (length bytes) 1000 && list_all is_text_byte bytes

-- ---- what each reader answers

abbrev pub spool_in : List ℕ → Result (List ℕ) Refusal
spool_in text = checked text (is_spool text) BadSpool

abbrev pub label_in : List ℕ → Result (List ℕ) Refusal
label_in text = checked text (is_spool text) BadLabel

abbrev pub name_in : List ℕ → Result (List ℕ) Refusal
name_in text = checked text (is_name text) BadField

abbrev pub key_in : List ℕ → Result (List ℕ) Refusal
key_in text = checked text (is_key text) BadField

abbrev pub host_in : List ℕ → Result (List ℕ) Refusal
host_in text = checked text (is_host text) BadHost

abbrev pub text_in : List ℕ → Result (List ℕ) Refusal
text_in text = checked text (is_text text) BadText

-- ---- fixed texts

-- the reason of a message that its customer put on hold
abbrev pub customer_hold : List ℕ
customer_hold = codes "held by customer"

-- the reason of a message that a line of an access table without a text put on hold
abbrev pub table_hold : List ℕ
table_hold = codes "held by access table"

-- the reason of a message that was on hold before reasons were kept
abbrev pub earlier_hold : List ℕ
earlier_hold = codes "held before version 2"

-- what is told to an address that a line without a text rejects
abbrev pub denied : List ℕ
denied = codes "Access denied"

-- what is told to an address that a line without a text puts off
abbrev pub try_later : List ℕ
try_later = codes "Try again later"
