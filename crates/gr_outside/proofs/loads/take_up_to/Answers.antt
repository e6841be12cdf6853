use Rattle.std.proofs.Common.{◌∙◌, ap, List, ℕ, ◌++◌, take, arith}
use Rattle.gr_outside.proofs.Prefixes.{StartsWith-nothing, StartsWith-take}
use Rattle.gr_outside.proofs.loads.take_up_to.Goals as goal

pub returns-in_err-extend_from_slice-clause-part : goal.returns-in_err-extend_from_slice-clause-part
returns-in_err-extend_from_slice-clause-part c = StartsWith-nothing _ _ (cc (c.in_err-extend_from_slice.ensures.items, c.requires.empty))

pub returns-then-count-limit-clause-part : goal.returns-then-count-limit-clause-part
returns-then-count-limit-clause-part c =
    StartsWith-take c.args.bytes.now c.extend_from_slice.new.self.items c.min-count.result (omega arith)
    (c.in_ok-extend_from_slice.ensures.items ∙ ap (λ (l : List ℕ). l ++ take c.min-count.result c.args.bytes.now) c.requires.empty)
