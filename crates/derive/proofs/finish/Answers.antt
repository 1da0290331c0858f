use native.Mathlib.Omega.{arith}
use Rattle.std.proofs.lemmas.Result.{err_from_is_err_and}
use Rattle.derive.proofs.Build as build
use borrow.Author.Rules.{rules}
use Rattle.derive.proofs.finish.Goals as goal

pub returns-in_err-add_words : goal.returns-in_err-add_words
returns-in_err-add_words c =
    let p = err_from_is_err_and c.from_residual.result c.from_residual.ensures.1 in
    rw (p.1, p.2, c.in_err-add_words.ensures.full) (build.finish_no _ _ _ _ (search rules) c.in_err-add_words.ensures.grown)

pub returns : goal.returns
returns c = build.finish_yes _ _ _ _ (omega arith) c.in_ok-add_words.ensures.grown
