use Rattle.std.proofs.Common.{rules, ◌≡◌, ◌∙◌, max}
use Rattle.std.specs.List.{fold}
use Rattle.ascii.proofs.Plain.{largest_is}
use Rattle.ascii.proofs.largest.Goals as goal

pub returns : goal.returns
returns c = let e : c.fold.result ≡ fold max 0 c.args.s.now = search rules in e ∙ largest_is c.args.s.now
