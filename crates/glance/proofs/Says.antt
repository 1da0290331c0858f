-- What a yes and a no say. Assumes nothing.
use mathlib.Core.Path.{◌≡◌, refl}
use mathlib.Core.Bool.{true, false}
use mathlib.Core.List.{List}
use Prim.Native.Nat.{ℕ}
use Rattle.std.specs.Prelude.{Ok, Err}
use Rattle.text.specs.Choice.{clash}
use Rattle.judge.specs.Judge.{Verdict, fine, is_fine}
use Rattle.glance.specs.Glance.{Passes, PassesBut, HasKey, HasRequired}

-- no says nothing
pub no_verdict : (v : Verdict) → Passes false v
unfolding Passes
no_verdict v h = clash h refl

pub no_but : (w v : Verdict) → PassesBut false w v
unfolding PassesBut
no_but w v h = clash h refl

pub no_key : (nodes links : List ℕ) (n t : ℕ) → HasKey false nodes links n t
unfolding HasKey
no_key nodes links n t h = clash h refl

pub no_required : (nodes schemas links : List ℕ) (n s : ℕ) → HasRequired false nodes schemas links n s
unfolding HasRequired
no_required nodes schemas links n s h = clash h refl

-- yes
pub yes-verdict : {v : Verdict} → v ≡ fine → Passes true v
unfolding Passes
yes-verdict e h = e

pub is_fine_lem : (v : Verdict) → is_fine v ≡ true → v ≡ fine
is_fine_lem (Ok u) h = refl
is_fine_lem (Err wrong) h = clash h refl
