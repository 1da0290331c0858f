use native.Mathlib.Omega.{arith}
use mathlib.Core.Path.{sym, ◌∙◌}
use borrow.Author.Tests.{le-ltb}
use Rattle.text.proofs.Parts.{fits_record, fits-wrong}
use Rattle.text.proofs.Texts.fits.Goals as goal

pub returns-then-n-count : goal.returns-then-n-count
returns-then-n-count c = cc (fits_record c.args.self.now.pool.now c.args.self.now.records.now c.args.n (omega arith))

pub returns-else-n-count : goal.returns-else-n-count
returns-else-n-count c = le-ltb _ _ c.if-n-count.false ∙ sym (fits-wrong _ _ _ (omega arith))
