use mathlib.Core.Path.{◌≡◌}
use borrow.Author.Rules.{rules}
use Rattle.std.specs.Prelude.{None}
use Rattle.derive.proofs.Derive as derive
use Rattle.std.proofs.lemmas.Result.{err_from_is_err_and}
use Rattle.derive.proofs.Build.{built_told}
use Rattle.derive.proofs.merge_object_schemas.Goals as goal

pub returns-in_err-add_words-clause-made : goal.returns-in_err-add_words-clause-made
returns-in_err-add_words-clause-made c = λ top.
    let p = err_from_is_err_and c.from_residual.result c.from_residual.ensures.1 in
    rw (p.1, p.2, c.in_err-add_words.ensures.full) (derive.merge_no_note _ _ c.args.origin.now.registry.now _ _ _ _ _ _ _ _ _ c.requires _ c.take_bases-taken.ensures.note _ c.in_err-add_words.ensures.grown)

pub returns-in_default-clause-made : goal.returns-in_default-clause-made
returns-in_default-clause-made c =
    let none : c.lay.result ≡ None = search rules in
    λ top. derive.merge_no_links _ _ c.args.origin.now.registry.now _ _ _ _ _ _ _ _ _ c.requires _ c.take_bases-taken.ensures.note _ c.in_ok-add_words.ensures.grown _ c.take_bases-taken.ensures.additional _ c.take_bases-taken.ensures.names _ _ c.take_bases-taken.ensures.offers c.take_bases-taken.ensures.named _ _ c.lay.ensures none

pub after-v-requires : goal.after-v-requires
after-v-requires c = derive.merge-fits _ _ c.args.origin.now.registry.now _ _ _ _ _ c.args.work.now.stack.now 0 _ _ c.requires _ c.take_bases-taken.ensures.note _ c.in_ok-add_words.ensures.grown _ c.take_bases-taken.ensures.additional _ c.take_bases-taken.ensures.names _ _ c.take_bases-taken.ensures.offers c.take_bases-taken.ensures.named _ _ c.lay.ensures _ c.in-Some.is

pub merged_rows-requires : goal.merged_rows-requires
merged_rows-requires c = derive.merge-rows-ready _ _ c.args.origin.now.registry.now _ _ _ _ _ c.args.work.now.stack.now 0 _ _ c.requires _ c.take_bases-taken.ensures.note _ c.in_ok-add_words.ensures.grown _ c.take_bases-taken.ensures.additional _ c.take_bases-taken.ensures.names _ _ c.take_bases-taken.ensures.offers c.take_bases-taken.ensures.named _ _ c.lay.ensures _ c.in-Some.is _ c.after-v.ensures

pub returns-clause-made : goal.returns-clause-made
returns-clause-made c = λ top. built_told _ _ _ _ _ _ _ _ _ _ _ _ c.requires.most (derive.merge-done _ _ c.args.origin.now.registry.now _ _ _ _ _ _ _ _ _ c.requires _ c.take_bases-taken.ensures.note _ c.in_ok-add_words.ensures.grown _ c.take_bases-taken.ensures.additional _ c.take_bases-taken.ensures.names _ _ c.take_bases-taken.ensures.offers c.take_bases-taken.ensures.named _ _ c.lay.ensures _ c.in-Some.is _ c.after-v.ensures _ c.take_bases-taken.ensures.scalars _ _ c.merged_rows.ensures)
