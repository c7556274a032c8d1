use Rattle.std.proofs.Common.{◌≡◌, Bool, true, false, List, ℕ, ◌++◌, ap, sym, ◌∙◌}
use Rattle.x690.specs.Identifiers.{Identifier}
use Rattle.x690.specs.Lengths.{LengthForm}
use Rattle.x690.specs.Rules.{ber_rule}
use Rattle.x690.specs.Elements.{IsHeader}
use Rattle.x690.specs.Laws.Headers.{header_unique}
use Rattle.x690.specs.Laws.Faults.{header_or_fault}
use Rattle.asn1_headers.specs.Header.{identifier_of}
use Rattle.asn1_headers.specs.Length.{form_of}
use Rattle.asn1_engine.specs.Inner.{TellsUsual, is_usual}
use Rattle.asn1_walk.proofs.OneRow.{apart}
use Rattle.asn1_engine.proofs.inner.begin_as_usual.Goals as goal

-- the header that begins the octets tells, since there is one alone
by_header : (octets header rest : List ℕ) (id : Identifier) (form : LengthForm) (it : Bool) →
    IsHeader ber_rule header id form → octets ≡ header ++ rest → it ≡ is_usual id → TellsUsual octets it
by_header octets header rest id form true h e is = (id, (header, rest, form, h, e), sym is)
by_header octets header rest id form false h e is = λ other.
    let same = header_unique ber_rule ber_rule header other.1.0 rest other.1.1 id other.0 form other.1.2 h other.1.3
    (sym e ∙ other.1.4) in
    apart (is_usual other.0) (is_usual id) other.2 (sym is) (ap is_usual (sym same.1))

pub returns-in-Ok : goal.returns-in-Ok
returns-in-Ok c =
    let b = c.in-Ok.ensures in
    by_header c.args.octets.now b.octets c.in-Ok._rest.now (identifier_of c.in-Ok.header) (form_of c.in-Ok.header.length)
    c.is_usual.result b.header b.is c.is_usual.ensures

pub returns : goal.returns
returns c =
    let why = c.in-Err.ensures in λ usual.
    header_or_fault ber_rule c.args.octets.now usual.1.0 usual.1.1 usual.0 usual.1.2 why.0 why.1 usual.1.3 usual.1.4
