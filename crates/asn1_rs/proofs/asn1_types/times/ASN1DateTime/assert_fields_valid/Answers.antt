use Rattle.asn1_rs.proofs.asn1_types.times.ASN1DateTime.assert_fields_valid.Goals as goal

pub returns : goal.returns
returns c = record {
  year = c.assert_numbers_valid.ensures.year;
  month = c.assert_numbers_valid.ensures.month;
  day = c.assert_numbers_valid.ensures.day;
  hour = c.assert_numbers_valid.ensures.hour;
  minute = c.assert_numbers_valid.ensures.minute;
  second = c.assert_numbers_valid.ensures.second;
  millisecond = c.assert_milliseconds_valid.ensures;
  zone = c.assert_zone_valid.ensures;
}
