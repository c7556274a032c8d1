use Rattle.std.proofs.Common.{◌≡◌, ℕ, List, ◌++◌, length, Option, Some, None, MatchOption, ap, sym, subst, ◌∙◌, arith}
use Rattle.x690.specs.Identifiers.{Identifier}
use Rattle.x690.specs.Lengths.{definite}
use Rattle.x690.specs.Rules.{der_rule}
use Rattle.x690.specs.Elements.{IsHeader}
use Rattle.x690.specs.Laws.Faults.{header_or_fault}
use Rattle.x690.specs.Laws.Headers.{definite_same, header_unique}
use Rattle.asn1_headers.specs.Header.{identifier_of}
use Rattle.asn1_headers.specs.Length.{form_of}
use Rattle.asn1_headers.specs.declared.length.Length.{Length}
use Rattle.asn1_headers.specs.declared.length.Length.TheVariants.{Definite, Indefinite}
use Rattle.asn1_engine.specs.Shortfalls.{CountsMore, CountsNoMore, IsShort, IsShortOf}
use Rattle.asn1_engine.specs.declared.shortfalls.Shortfall.{Shortfall}
use Rattle.asn1_engine.proofs.shortfalls.front_shortfall.Goals as goal

counts : (form : Length) (n : ℕ) → form_of form ≡ definite n → form ≡ Definite n
counts (Definite m) n e = ap Definite (definite_same m n e)
counts Indefinite n e = cc

-- the header that begins the octets tells what is missing, since there is one alone
by_header : (octets header rest : List ℕ) (id : Identifier) (form : Length) (found : Option Shortfall) →
    IsHeader der_rule header id (form_of form) → octets ≡ header ++ rest →
    MatchOption found (CountsNoMore form rest) (CountsMore form rest) →
    MatchOption found (IsShort octets → ⊥) (IsShortOf octets)
by_header octets header rest id form None h e few = λ short.
    let it = short.1 in
    let counted : ℕ = short.0.counted in
    let same = header_unique der_rule der_rule header it.0 rest it.1 id it.2 (form_of form) (definite counted) h it.3
    (sym e ∙ it.4) in
    let within = few counted (counts form counted same.2) in
    let rests = ap length same.3 in
    let there = it.5 in
    let less = it.6 in
    omega arith
by_header octets header rest id form (Some shortfall) h e more = (
  header,
  rest,
  id,
  subst (λ (l : Length). IsHeader der_rule header id (form_of l)) more.0 h,
  e,
  more.1,
  more.2,
)

pub returns-in-Ok : goal.returns-in-Ok
returns-in-Ok c =
    let b = c.in-Ok.ensures in
    by_header c.args.octets.now b.octets c.in-Ok.rest.now (identifier_of c.in-Ok.header) c.length.result
    c.length_shortfall.result
    (subst (λ (l : Length). IsHeader der_rule b.octets (identifier_of c.in-Ok.header) (form_of l)) (sym c.length.ensures) b.header)
    b.is c.length_shortfall.ensures

pub returns : goal.returns
returns c =
    let why = c.in-Err.ensures in λ short.
    header_or_fault der_rule c.args.octets.now short.1.0 short.1.1 short.1.2 (definite short.0.counted) why.0 why.1 short.1.3
    short.1.4
