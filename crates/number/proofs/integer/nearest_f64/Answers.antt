use Rattle.std.proofs.Common.{pos, ap, ◌∙◌, arith, lit≤}
use lib.Bits.{bit_and}
use lib.Ieee.{Float, binary64, add, mul, of_bits, of_int}
use Rattle.std.proofs.num.Nearest.{lower_in, halves_masked, two_to_32}
use Rattle.number.specs.Nearest.{nearest_of}
use Rattle.number.proofs.Halves as halves
use Rattle.number.proofs.integer.nearest_f64.Goals as goal
use Rattle.number.proofs.integer.nearest_f64.Goals.{then-word-lt9223372036854775808, else-word-lt9223372036854775808}

-- `number::integer::nearest_f64` meets its contract: std's lemma where the upper half is not negative, and this crate's where it is. Assumes nothing.
pub int_to_float-upper : goal.int_to_float-upper
int_to_float-upper c = halves.half_in _ (omega arith)

pub int_to_float-upper-else-word-lt9223372036854775808 : goal.int_to_float-upper-else-word-lt9223372036854775808
int_to_float-upper-else-word-lt9223372036854775808 c = halves.half_in _ (omega arith)

pub int_to_float-result : goal.int_to_float-result
int_to_float-result c = lower_in binary64 32 c.args.word (lit≤ tt)

pub returns : goal.returns
unfolding nearest_of
returns c =
    let start = c in
    let joined : Float → Float = λ upper. add binary64 (mul binary64 upper (of_bits binary64 4751297606875873280)) (of_int binary64 (pos (bit_and start.args.word 4294967295))) in
    elim c.if-word-lt9223372036854775808.branch [
      | then-word-lt9223372036854775808 w ↦
          ap joined w.upper-is
          ∙ halves_masked binary64 32 start.args.word _ two_to_32 (lit≤ tt) (lit≤ tt) start.ranges.word.fits
          ∙ halves.signed_low start.args.word w.if-word-lt9223372036854775808.true
      | else-word-lt9223372036854775808 w ↦ ap joined w.upper-is ∙ halves.negative_halves start.args.word _ two_to_32 start.ranges.word.fits w.if-word-lt9223372036854775808.false
    ]
