use Rattle.asn1_rs_places.proofs.rows.Tuple2LooksIntoRow.look_in_row.Goals as goal

-- the fields that were taken, as one row
pub returns-in-Ok : goal.returns-in-Ok
returns-in-Ok g c = (
  (c.in-Ok.field-0-1, c.in-None.ensures.0),
  (c.in-Ok.rest.now, c.in-Ok.ensures.gives, c.in-None.ensures.1),
)
