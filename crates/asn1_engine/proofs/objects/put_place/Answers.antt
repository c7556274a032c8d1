use Rattle.asn1_engine.proofs.Gained.{gains_twice}
use Rattle.asn1_engine.proofs.objects.put_place.Goals as goal

pub returns : goal.returns
returns c =
    let two = gains_twice c.args.out.now c.put_number.new.out c.put_number-2.new.out _ _ c.in_ok-put_number.ensures c.in_ok-put_number-2.ensures in
    let three = gains_twice c.args.out.now c.put_number-2.new.out c.put_number-3.new.out _ _ two c.in_ok-put_number-3.ensures in
    let four = gains_twice c.args.out.now c.put_number-3.new.out c.key.new.self _ _ three (c.in_ok-key.ensures.room.0, c.in_ok-key.ensures.ok) in
    gains_twice c.args.out.now c.key.new.self c.put_length.new.out _ _ four c.in_ok-put_length.ensures
