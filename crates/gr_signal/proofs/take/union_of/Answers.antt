use Rattle.std.proofs.Common.{◌≡◌, ◌∙◌, ◌++◌, [], List, ℕ, drop, refl, sym, ap}
use Rattle.std.proofs.lemmas.List.{append_assoc, append-nil, drop_all, take_rest}
use Rattle.gr_base.specs.Rising.{union}
use Rattle.gr_base.proofs.Union.{union-nil}
use Rattle.gr_signal.proofs.take.union_of.Goals as goal
use Rattle.gr_signal.proofs.take.union_of.Goals.{then-merge-test+else-j-right, else-merge-test}

left-done : (xs ys : List ℕ) → xs ≡ [] → union xs ys ≡ xs ++ ys
left-done xs ys e = rw e refl

right-done : (xs ys : List ℕ) → ys ≡ [] → union xs ys ≡ xs ++ ys
right-done xs ys e = rw e (union-nil xs ∙ sym (append-nil xs))

pub returns : goal.returns
returns c =
    let xs = drop c.merge.i c.args.left.now in
    let ys = drop c.merge.j c.args.right.now in
    let ends : union xs ys ≡ xs ++ ys = elim c.merge-test.branch [
      | then-merge-test+else-j-right w ↦ right-done xs ys (drop_all c.merge.j c.args.right.now w.if-j-right.false)
      | else-merge-test w ↦ left-done xs ys (drop_all c.merge.i c.args.left.now w.merge-test.false)
    ] in
    c.in_ok-extend_from_slice-2.ensures.ok ∙ ap (λ l. c.extend_from_slice.new.self ++ l) (take_rest c.args.right.now c.merge.j)
    ∙ ap (λ l. l ++ ys) (c.in_ok-extend_from_slice.ensures.ok ∙ ap (λ l. c.merge.all ++ l) (take_rest c.args.left.now c.merge.i))
    ∙ append_assoc c.merge.all xs ys ∙ ap (λ l. c.merge.all ++ l) (sym ends) ∙ c.merge.invariant.rest
