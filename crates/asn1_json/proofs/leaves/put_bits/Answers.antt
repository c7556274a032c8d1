use Rattle.std.proofs.Common.{◌≡◌, ◌∙◌, ap, sym, subst, ℕ, Bool, List, length, OnOk, arith}
use Rattle.json.specs.Print.{IsNumber}
use Rattle.json.specs.Token.{Token}
use Rattle.asn1_words.specs.Words.{number_text}
use Rattle.asn1_schema.specs.Same.{all_bits_of}
use Rattle.asn1_schema.specs.Tape.{marks}
use Rattle.asn1_json.specs.Leaves.{octets_of_bits}
use Rattle.asn1_json.proofs.Decimals.{number_is_number}
use Rattle.asn1_json.proofs.BitTokens.{bits_written}
use Rattle.asn1_json.proofs.leaves.put_bits.Goals as goal

pub put-requires-4 : goal.put-requires-4
put-requires-4 g c =
    subst IsNumber (sym (c.as_str.ensures.value ∙ c.in_ok-count.ensures)) (number_is_number c.len.result)

pub returns : goal.returns
returns g c =
    let written = g.W.TokenWriter.written in
    let bs = all_bits_of (marks c.args.pieces.now) in
    let all = ap (λ (x : List Bool). length x) c.in_ok-bits.ensures in
    let count : c.len.result ≡ length bs = omega (arith, all, c.len.ensures, c.in_ok-bits.bits.ok.0) in
    let octets = c.as_slice-2.ensures.value ∙ c.in_ok-octets.ensures
    ∙ ap (λ (x : List Bool). octets_of_bits x) (c.as_slice.ensures.value ∙ c.in_ok-bits.ensures) in
    let digits = c.as_str.ensures.value ∙ c.in_ok-count.ensures ∙ ap (λ (n : ℕ). number_text n) count in
    let all_tokens = bits_written (written c.args.out.now) (written c.put.new.self) (written c.put-2.new.self)
    (written c.put_hexadecimal.new.out) (written c.put-3.new.self) (written c.put-4.new.self) c.as_slice-2.result.now
    c.as_str.result.now bs octets digits c.in_ok-put.ensures c.in_ok-put-2.ensures c.in_ok-put_hexadecimal.ensures
    c.in_ok-put-3.ensures c.in_ok-put-4.ensures in
    subst (λ (ts : List Token). OnOk c.put-5.result (written c.put-5.new.self ≡ ts)) all_tokens c.put-5.ensures
