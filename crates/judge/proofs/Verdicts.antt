-- Each verdict, test by test. Assumes nothing.
use mathlib.Core.Path.{◌≡◌, refl}
use mathlib.Core.Bool.{Bool, true, false}
use mathlib.Core.List.{List}
use Prim.Native.Nat.{ℕ}
use lib.Dec.{eqb}
use Rattle.std.specs.Prelude.{Err}
use Rattle.text.specs.Choice.{pick}
use Rattle.layout.specs.Layout.{node_kind}
use Rattle.error.specs.declared.Reason.{Reason}
use Rattle.judge.specs.declared.Wrong.{Wrong}
use Rattle.judge.specs.Judge.{Verdict, fine, first_wrong, mismatch, kind_verdict}

-- the first that is not fine
pub first_fine : {v : Verdict} (w : Verdict) → v ≡ fine → first_wrong v w ≡ w
first_fine w h = rw h

pub first_wrong_lem : {v : Verdict} (w : Verdict) {e : Wrong Reason} → v ≡ Err e → first_wrong v w ≡ Err e
first_wrong_lem w h = rw h

-- a choice by what is fine, and what is wrong
fits : (b : Bool) {x : Verdict} (w : Wrong Reason) → pick b fine (Err w) ≡ fine → pick b x (Err w) ≡ x
fits true w h = refl
fits false w h = cc

misfits : (b : Bool) (x : Verdict) (w : Wrong Reason) {e : Wrong Reason} → pick b fine (Err w) ≡ Err e → pick b x (Err w) ≡ Err e
misfits true x w h = cc
misfits false x w h = h

module _ (nodes : List ℕ) (kind expected n : ℕ) (x : Verdict) where
  pub kind_fits : kind_verdict nodes kind expected n ≡ fine → pick (eqb (node_kind nodes n) kind) x (mismatch nodes expected n) ≡ x
  unfolding mismatch
  kind_fits h = fits (eqb (node_kind nodes n) kind) _ h

  pub kind_misfits : {e : Wrong Reason} → kind_verdict nodes kind expected n ≡ Err e → pick (eqb (node_kind nodes n) kind) x (mismatch nodes expected n) ≡ Err e
  unfolding mismatch
  kind_misfits h = misfits (eqb (node_kind nodes n) kind) x _ h
