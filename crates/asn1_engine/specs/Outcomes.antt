-- What the status of a call says.
use Rattle.std.specs.Prelude.{ℕ}
use Rattle.asn1_engine.specs.Findings.{both}
use Rattle.asn1_engine.specs.declared.error.Finding.TheVariants.{Holds, Refused}
use Rattle.asn1_engine.specs.declared.outcome.Outcome.{Outcome}
use Rattle.asn1_engine.specs.declared.outcome.Outcome.TheVariants.{Found, Unreadable}

-- 0 where all holds, 1 where octets are refused, 2 where a file can't be read
abbrev pub status_of : Outcome → ℕ
status_of (Found Holds) = 0
status_of (Found Refused) = 1
status_of Unreadable = 2

-- the worse of two outcomes
abbrev pub worse_of : Outcome → Outcome → Outcome
worse_of (Found one) (Found another) = Found (both one another)
worse_of (Found one) Unreadable = Unreadable
worse_of Unreadable other = Unreadable
