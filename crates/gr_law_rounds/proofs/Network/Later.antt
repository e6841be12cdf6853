-- An epoch later: the batches of before bind nobody, none of the new epoch stands anywhere, and nobody has reported.
use Rattle.std.proofs.Common.{◌≡◌, ℕ, ◌+◌, ◌≤◌, List, [], ◌∷◌, Bool, false, cond, ◌==◌, ◌&&◌, refl, ap, arith, Option, ne_eqb}
use Rattle.std.specs.Prelude.{count_by}
use Rattle.std.specs.List.{AllByRecursion as Each}
use Rattle.std.proofs.lemmas.Bool.{and_left, and_right}
use Rattle.gr_base.specs.Rising.{has}
use Rattle.gr_program.specs.Program.{Program}
use Rattle.gr_copies.specs.declared.view.RebuildView.{RebuildView}
use Rattle.gr_batch.specs.declared.batch.Batch.{Batch}
use Rattle.gr_batch.specs.declared.stage.Stage.{Stage}
use Rattle.gr_batch.specs.Bodies.{is_of, is_from}
use Rattle.gr_view.specs.declared.coordinator.Coordinator.{Coordinator}
use Rattle.gr_cluster.specs.Tables.{Host, inbox_of}
use Rattle.gr_agree.specs.Truth.{Truth}
use Rattle.gr_agree.specs.Network.{BatchHolds, NetworkHolds, standing}
use Rattle.gr_lists.proofs.Each.{Each-weaker}
use Rattle.gr_lists.proofs.Counts.{count_by-cons}

-- where nobody has reported, no vertex counts by its master's report
pub none-reported : (f : ℕ → Bool) (master : ℕ → ℕ) (vs : List ℕ) → count_by (λ v. f v && has [] (master v)) vs ≡ 0
none-reported f master [] = refl
none-reported f master (v ∷ vs) =
    let ih = none-reported f master vs in let more = count_by-cons (λ v. f v && has [] (master v)) v vs in
    let one : cond {A = ℕ} (f v && false) 1 0 ≡ 0 = ap (λ b. cond b 1 0) (and_right (f v) false refl) in omega (arith, ih, more, one)

module _ {V A : Type 0} where
  -- no batch has an epoch above the present one
  pub none-of-above : (e p : ℕ) (s : Stage) (bs : List (Batch V A)) → Each (λ b. b.epoch ≤ e) bs → count_by (is_of p (e + 1) s) bs ≡ 0
  none-of-above e p s [] h = refl
  none-of-above e p s (b ∷ bs) h =
      let le = h.0 in let ih = none-of-above e p s bs h.1 in let c = count_by-cons (is_of p (e + 1) s) b bs in
      let no : is_of p (e + 1) s b ≡ false = and_right (b.sender == p) _ (and_left _ _ (ne_eqb b.epoch (e + 1) (λ x. absurd (omega (arith, le, x))))) in
      let one : cond {A = ℕ} (is_of p (e + 1) s b) 1 0 ≡ 0 = ap (λ x. cond x 1 0) no in omega (arith, ih, c, one)

  pub none-from-above : (e p q : ℕ) (s : Stage) (bs : List (Batch V A)) → Each (λ b. b.epoch ≤ e) bs → count_by (is_from p q (e + 1) s) bs ≡ 0
  none-from-above e p q s [] h = refl
  none-from-above e p q s (b ∷ bs) h =
      let le = h.0 in let ih = none-from-above e p q s bs h.1 in let c = count_by-cons (is_from p q (e + 1) s) b bs in
      let no : is_from p q (e + 1) s b ≡ false = and_right (b.receiver == q) _ (and_right (b.sender == p) _ (and_left _ _ (ne_eqb b.epoch (e + 1) (λ x. absurd (omega (arith, le, x)))))) in
      let one : cond {A = ℕ} (is_from p q (e + 1) s b) 1 0 ≡ 0 = ap (λ x. cond x 1 0) no in omega (arith, ih, c, one)

module _ {V A : Type 0} (P : Program V A) (w : RebuildView) (want : ℕ) (t : Truth V) (co : Coordinator) where
  -- what holds of a batch holds in the next epoch, whatever is committed and rebuilt then
  pub batch-later : (w' : RebuildView) (want' : ℕ) (t' : Truth V) (co' : Coordinator) → co'.epoch ≡ co.epoch + 1
      → (b : Batch V A) → BatchHolds P w want t co b → BatchHolds P w' want' t' co' b
  batch-later w' want' t' co' next b B = let l = B.epoch in record {
    apart = B.apart;
    epoch = omega (arith, l, next);
    sender = λ x. absurd (omega (arith, l, next, x));
    receiver = λ x. absurd (omega (arith, l, next, x));
    stage = λ x. absurd (omega (arith, l, next, x));
    body = λ x. absurd (omega (arith, l, next, x));
  }

  -- no batch of the next epoch stands in the flight or in an inbox
  pub none-stands-later : (host_of : ℕ → Option (Host V A)) (flight : List (Batch V A)) → NetworkHolds P w want t co host_of flight
      → (p q : ℕ) (s : Stage) → standing flight (host_of q) p q (co.epoch + 1) s ≡ 0
  none-stands-later host_of flight N p q s =
      let a = none-from-above co.epoch p q s flight (Each-weaker _ _ (λ b B. B.epoch) flight N.in_flight) in
      let b = none-of-above co.epoch p s (inbox_of (host_of q)) (Each-weaker _ _ (λ b B. (B.0).epoch) (inbox_of (host_of q)) (N.in_inbox q)) in
      omega (arith, a, b)
