use native.Mathlib.Omega.{arith}
use mathlib.Core.Path.{ap}
use lib.ListN.{length}
use Rattle.text.proofs.Parts.{text_part, text_short}
use Rattle.text.proofs.Texts.text.Goals as goal

pub returns-clause-bytes : goal.returns-clause-bytes
returns-clause-bytes c = cc (text_part c.args.self.now.pool.now c.args.self.now.records.now c.args.n)

pub returns-clause-short : goal.returns-clause-short
returns-clause-short c =
    let short = text_short c.args.self.now.pool.now c.args.self.now.records.now c.args.n 4294967296 (omega (arith, c.length.ensures.value, c.length.ensures.word)) in
    omega (arith, ap length (returns-clause-bytes c), short)
