use Rattle.std.proofs.Common.{arith, refl}
use Rattle.ov_record.proofs.laws.forms_have_room.Goals as goal

pub returns : goal.returns
returns c = record {
  first = (omega arith, omega arith);
  second = (omega arith, omega arith);
  second_is_wider = (omega arith, omega arith, omega arith, λ on. refl);
  first_records_fit = omega arith;
  second_records_fit = omega arith;
  first_updates_fit = omega arith;
  second_updates_do_not = omega arith;
}
