use Rattle.std.proofs.Common.{◌≡◌, ◌≢◌, ℕ, ◌≤◌, List, [], ◌∷◌, refl}
use Rattle.std.specs.List.{All}
use Rattle.x690.specs.Arcs.{pieces_of}
use Rattle.x690.specs.Laws.Arcs.{pieces_joined, first_piece, piece_is_truncated}
use Rattle.x690.proofs.arcs.contents_are_pieces.Goals as goal

pub returns-clause-joined : goal.returns-clause-joined
returns-clause-joined c = pieces_joined

pub returns-clause-first : goal.returns-clause-first
returns-clause-first c = first_piece

one_piece : (octets : List ℕ) → octets ≢ [] → All (λ octet. 128 ≤ octet) octets → pieces_of octets ≡ octets ∷ []
one_piece [] some high = absurd (some refl)
one_piece (octet ∷ octets) some high = piece_is_truncated octet octets (λ k within. high k 0 within)

pub returns-clause-truncated : goal.returns-clause-truncated
returns-clause-truncated c = one_piece
