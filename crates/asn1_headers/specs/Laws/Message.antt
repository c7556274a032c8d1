-- Laws of texts of refusals.
use Rattle.std.proofs.Common.{◌≡◌, ◌<◌, ◌≤◌, ℕ, true, List, length, take, slice_index_or, sym, subst, arith}
use Rattle.std.specs.Prelude.{nat_lt}
use Rattle.std.specs.List.{list_all, All}
use Rattle.std.specs.Str.{IsUtf8}
use Rattle.std.proofs.lemmas.Bool.Decides.{nat_tests}
use Rattle.std.proofs.lemmas.List.{take_all}
use Rattle.std.proofs.lemmas.List.Sums.{AllPass-from_list_all}
use Rattle.std.proofs.lemmas.Str.{IsUtf8-from_ascii}
use Rattle.std.proofs.lemmas.Str.Ascii.{IsAscii-from_all}
use Rattle.asn1_headers.specs.Message.{message_text}
use Rattle.asn1_headers.specs.declared.message.Held.TheVariants.{Inline}
use Rattle.asn1_headers.specs.declared.message.Message.{Message}

-- there is a message of each short text in ASCII
pub short_message : (text : List ℕ) → length text ≤ 30 → list_all (λ c. nat_lt c 128) text ≡ true →
    (m : Message) × (message_text m ≡ text)
short_message text few ascii =
    let each : All (λ c. c < 128) text = λ k d lt.
    let passes : nat_lt (slice_index_or text k d) 128 ≡ true =
    AllPass-from_list_all (λ c. nat_lt c 128) text ascii k d lt in
    grind (arith, nat_tests) in
    let whole : take (length text) text ≡ text = take_all (length text) text (omega arith) in
    let utf8 : IsUtf8 text = IsUtf8-from_ascii text (IsAscii-from_all text each) in (
      record {
        held = Inline (record {
          len = length text;
          octets = text;
          fits = few;
          utf8 = ∣ subst (λ t. IsUtf8 t) (sym whole) utf8 ∣₁;
        });
      },
      whole,
    )
