use Rattle.std.proofs.Common.{◌-◌, get_or, arith}
use Rattle.fields.proofs.Reading as reading
use Rattle.fields.proofs.digits.number_of.Goals as goal

pub overflow_sub-number : goal.overflow_sub-number
overflow_sub-number c = (reading.digit_at c.args.digits.now c.requires.good c.loop-digit.digit-index (omega arith)).0

pub overflow_mul-number : goal.overflow_mul-number
overflow_mul-number c = omega (arith, reading.room c.loop-digit.digit-index c.loop-digit.number 0 (omega (arith, c.requires.short)) c.loop-digit.invariant.small (omega arith))

pub overflow_add-number : goal.overflow_add-number
overflow_add-number c =
    let d = get_or c.args.digits.now c.loop-digit.digit-index 0 in
    let is = reading.digit_at c.args.digits.now c.requires.good c.loop-digit.digit-index (omega arith) in
    omega (arith, reading.room c.loop-digit.digit-index c.loop-digit.number (d - 48) (omega (arith, c.requires.short)) c.loop-digit.invariant.small (omega (arith, is.1)))

pub loop-digit-preserved : goal.loop-digit-preserved
loop-digit-preserved c = reading.more c.args.digits.now c.loop-digit.digit-index c.loop-digit.number c.requires.good (omega arith) c.loop-digit.invariant
