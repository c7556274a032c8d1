-- Texts of refusals.
use Rattle.std.specs.Prelude.{ℕ, List, ◌≡◌, ◌≤◌, ◌<◌, take, length, string_bytes, IsCharBoundary}
use Rattle.asn1_headers.specs.declared.message.Held.{Held}
use Rattle.asn1_headers.specs.declared.message.Held.TheVariants.{Inline, Owned}
use Rattle.asn1_headers.specs.declared.message.Message.{Message}

-- the text of a message, whether it is held inline or in memory of its own
abbrev pub text_in : Held → List ℕ
text_in (Inline text) = take text.len text.octets
text_in (Owned text) = string_bytes text

-- what a message says, in UTF-8
abbrev pub message_text : Message → List ℕ
message_text message = text_in message.held

-- of the beginnings of the text that end at a character and fit in so many octets, the longest one
pub record IsLongestBeginning (room : ℕ) (text beginning : List ℕ) : Type 0 where
  pub begins : beginning ≡ take (length beginning) text
  pub fits : length beginning ≤ room
  pub ends : IsCharBoundary text (length beginning)
  pub longest : (n : ℕ) → length beginning < n → n ≤ room → ¬ (IsCharBoundary text n)
