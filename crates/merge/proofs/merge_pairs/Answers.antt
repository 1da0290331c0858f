use Rattle.text.specs.Text.{same_text}
use Rattle.merge.proofs.Laws as laws
use Rattle.merge.proofs.merge_pairs.Goals as goal

pub returns-in_err-n : goal.returns-in_err-n
returns-in_err-n c = rw c.from_residual.ensures (laws.joining_full (same_text c.args.texts.now.pool.now c.args.texts.now.records.now) c.args.own_links.now _ _ c.args.first c.args.count _ c.in_err-n.ensures)

pub put_pairs-requires : goal.put_pairs-requires
put_pairs-requires c = laws.joining_fits (same_text c.args.texts.now.pool.now c.args.texts.now.records.now) c.args.own_links.now _ _ c.args.first c.args.count _ _ c.in_ok-n.ensures

pub returns : goal.returns
returns c = laws.joining_end (same_text c.args.texts.now.pool.now c.args.texts.now.records.now) c.args.own_links.now _ _ c.args.first c.args.count _ _ c.in_ok-n.ensures _ _ c.put_pairs.ensures
