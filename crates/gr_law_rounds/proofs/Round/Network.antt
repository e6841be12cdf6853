-- The batches, where the host of one place changes, and where it sends one.
use Rattle.std.proofs.Common.{◌≡◌, ◌≢◌, ℕ, ◌+◌, ◌≤◌, List, [], ◌∷◌, ◌++◌, Bool, true, false, cond, ◌==◌, refl, sym, ap, ◌∙◌, subst, arith, Option, Some, eqb-true, le_refl}
use Rattle.std.specs.Prelude.{is_some, count_by}
use Rattle.std.specs.List.{AllByRecursion as Each}
use Rattle.std.proofs.lemmas.Bool.{and_parts}
use Rattle.gr_base.specs.Rising.{has}
use Rattle.gr_program.specs.Program.{Program}
use Rattle.gr_copies.specs.declared.view.RebuildView.{RebuildView}
use Rattle.gr_batch.specs.declared.batch.Batch.{Batch}
use Rattle.gr_batch.specs.declared.stage.Stage.{Stage}
use Rattle.gr_batch.specs.Stages.{code_of}
use Rattle.gr_batch.specs.Bodies.{is_from, is_of, stage_of_body}
use Rattle.gr_view.specs.declared.coordinator.Coordinator.{Coordinator}
use Rattle.gr_view.specs.Decisions.{parties}
use Rattle.gr_cluster.specs.Tables.{Host, inbox_of}
use Rattle.gr_agree.specs.Truth.{Truth}
use Rattle.gr_agree.specs.Network.{BatchHolds, NetworkHolds, standing, is_shown}
use Rattle.gr_lists.proofs.Tests.{by_test, by_same}
use Rattle.gr_lists.proofs.Counts.{count_by-append, count_by-cons}
use Rattle.gr_lists.proofs.Each.{Each-append}

-- what a test by sender, epoch and stage says of a batch
pub of-parts : {V A : Type 0} (p e : ℕ) (s : Stage) (b : Batch V A) → is_of p e s b ≡ true → (b.sender ≡ p) × (b.epoch ≡ e) × (code_of s ≡ code_of (stage_of_body b.body))
of-parts p e s b h =
    let h1 = and_parts (b.sender == p) _ h in
    let h2 = and_parts (b.epoch == e) _ h1.1 in
    (eqb-true _ _ h1.0, eqb-true _ _ h2.0, eqb-true _ _ h2.1)

module _ {V A : Type 0} (P : Program V A) (w : RebuildView) (want : ℕ) (t : Truth V) (co : Coordinator) (host_of host_of' : ℕ → Option (Host V A)) (flight : List (Batch V A))
    (p : ℕ) (h h' : Host V A) (here : host_of p ≡ Some h) (here' : host_of' p ≡ Some h') (there : (q : ℕ) → q ≢ p → host_of' q ≡ host_of q)
    (N : NetworkHolds P w want t co host_of flight) where
  abbrev InboxHolds : ℕ → List (Batch V A) → Type 0
  InboxHolds q inbox = Each (λ b. BatchHolds P w want t co b × (b.receiver ≡ q)) inbox

  inboxes : InboxHolds p h'.inbox → (q : ℕ) → InboxHolds q (inbox_of (host_of' q))
  inboxes good q = by_same q p
      (λ e. subst (λ o. InboxHolds q (inbox_of o)) (sym (ap host_of' e ∙ here')) (subst (λ r. InboxHolds r h'.inbox) (sym e) good))
      (λ ne. subst (λ o. InboxHolds q (inbox_of o)) (sym (there q ne)) (N.in_inbox q))

  pub inbox-here : InboxHolds p h.inbox
  inbox-here = subst (λ o. InboxHolds p (inbox_of o)) here (N.in_inbox p)

  up-same : (q : ℕ) → is_some (host_of' q) ≡ is_some (host_of q)
  up-same q = by_same q p
      (λ k. ap is_some (ap host_of' k ∙ here') ∙ sym (ap is_some (ap host_of k ∙ here)))
      (λ ne. ap is_some (there q ne))

  -- how many stand in an inbox
  counted : (p' q e : ℕ) (s : Stage) → count_by (is_of p' e s) h'.inbox ≤ count_by (is_of p' e s) h.inbox → count_by (is_of p' e s) (inbox_of (host_of' q)) ≤ count_by (is_of p' e s) (inbox_of (host_of q))
  counted p' q e s le = by_same q p
      (λ k.
      let a : count_by (is_of p' e s) (inbox_of (host_of' q)) ≡ count_by (is_of p' e s) h'.inbox = ap (λ o. count_by (is_of p' e s) (inbox_of o)) (ap host_of' k ∙ here') in
      let b : count_by (is_of p' e s) (inbox_of (host_of q)) ≡ count_by (is_of p' e s) h.inbox = ap (λ o. count_by (is_of p' e s) (inbox_of o)) (ap host_of k ∙ here) in omega (arith, a, b, le))
      (λ ne. let a : count_by (is_of p' e s) (inbox_of (host_of' q)) ≡ count_by (is_of p' e s) (inbox_of (host_of q)) = ap (λ o. count_by (is_of p' e s) (inbox_of o)) (there q ne) in omega (arith, a))

  counted-same : (p' q e : ℕ) (s : Stage) → count_by (is_of p' e s) h'.inbox ≡ count_by (is_of p' e s) h.inbox → count_by (is_of p' e s) (inbox_of (host_of' q)) ≡ count_by (is_of p' e s) (inbox_of (host_of q))
  counted-same p' q e s same = by_same q p
      (λ k. ap (λ o. count_by (is_of p' e s) (inbox_of o)) (ap host_of' k ∙ here') ∙ (same ∙ sym (ap (λ o. count_by (is_of p' e s) (inbox_of o)) (ap host_of k ∙ here))))
      (λ ne. ap (λ o. count_by (is_of p' e s) (inbox_of o)) (there q ne))

  -- what holds of what two hosts show, from the hosts of p
  shown-at : (R : Bool → Bool → Type 0) (q : ℕ) (s : Stage) (p' : ℕ) → (p' ≡ p → R (is_shown co q (Some h) s) (is_shown co q (Some h') s)) → ((b : Bool) → R b b) → R (is_shown co q (host_of p') s) (is_shown co q (host_of' p') s)
  shown-at R q s p' mine other = by_same p' p
      (λ k. subst (λ o. R (is_shown co q o s) (is_shown co q (host_of' p') s)) (sym (ap host_of k ∙ here)) (subst (λ o. R (is_shown co q (Some h) s) (is_shown co q o s)) (sym (ap host_of' k ∙ here')) (mine k)))
      (λ ne. subst (λ o. R (is_shown co q (host_of p') s) (is_shown co q o s)) (sym (there p' ne)) (other (is_shown co q (host_of p') s)))

  abbrev Same : Bool → Bool → Type 0
  Same a b = cond {A = ℕ} b 1 0 ≡ cond a 1 0

  abbrev Less : Bool → Bool → Type 0
  Less a b = cond {A = ℕ} a 1 0 ≤ cond b 1 0

  -- the host changes: its inbox loses no batch of the epoch, and it shows no less as sent, and the same to other parties
  pub network-line : InboxHolds p h'.inbox
      → ((p' e : ℕ) (s : Stage) → count_by (is_of p' e s) h'.inbox ≤ count_by (is_of p' e s) h.inbox)
      → ((p' : ℕ) (s : Stage) → count_by (is_of p' co.epoch s) h'.inbox ≡ count_by (is_of p' co.epoch s) h.inbox)
      → ((q : ℕ) (s : Stage) → cond {A = ℕ} (is_shown co q (Some h) s) 1 0 ≤ cond (is_shown co q (Some h') s) 1 0)
      → ((q : ℕ) (s : Stage) → has (parties co) q ≡ true → p ≢ q → is_shown co q (Some h') s ≡ is_shown co q (Some h) s)
      → NetworkHolds P w want t co host_of' flight
  network-line good le same grows shows = record {
    in_flight = N.in_flight;
    in_inbox = inboxes good;
    at_most_one = λ p' q e s. let was = N.at_most_one p' q e s in let now = counted p' q e s (le p' e s) in omega (arith, was, now);
    only_sent = λ p' q s up.
        let was = N.only_sent p' q s (sym (up-same p') ∙ up) in let now = counted-same p' q co.epoch s (same p' s) in
        let shown = shown-at Less q s p' (λ k. grows q s) (λ b. le_refl _) in omega (arith, was, now, shown);
    all_sent = λ p' q s up up' party party' apart.
        let was = N.all_sent p' q s (sym (up-same p') ∙ up) (sym (up-same q) ∙ up') party party' apart in let now = counted-same p' q co.epoch s (same p' s) in
        let shown = shown-at Same q s p' (λ k. ap (λ b. cond b 1 0) (shows q s party' (λ x. apart (k ∙ x)))) (λ b. refl) in omega (arith, was, now, shown);
  }

  -- its inbox stays as it was
  pub network-passed : h'.inbox ≡ h.inbox
      → ((q : ℕ) (s : Stage) → cond {A = ℕ} (is_shown co q (Some h) s) 1 0 ≤ cond (is_shown co q (Some h') s) 1 0)
      → ((q : ℕ) (s : Stage) → has (parties co) q ≡ true → p ≢ q → is_shown co q (Some h') s ≡ is_shown co q (Some h) s)
      → NetworkHolds P w want t co host_of' flight
  network-passed e grows shows = network-line
      (subst (InboxHolds p) (sym e) inbox-here)
      (λ p' n s. let same : count_by (is_of p' n s) h'.inbox ≡ count_by (is_of p' n s) h.inbox = ap (count_by (is_of p' n s)) e in omega (arith, same))
      (λ p' s. ap (count_by (is_of p' co.epoch s)) e)
      grows shows

  -- and it shows the same
  pub network-kept : h'.inbox ≡ h.inbox → ((q : ℕ) (s : Stage) → is_shown co q (Some h') s ≡ is_shown co q (Some h) s) → NetworkHolds P w want t co host_of' flight
  network-kept e shows = network-passed e
      (λ q s. let same : cond {A = ℕ} (is_shown co q (Some h') s) 1 0 ≡ cond (is_shown co q (Some h) s) 1 0 = ap (λ b. cond b 1 0) (shows q s) in omega (arith, same))
      (λ q s party ne. shows q s)

  -- it sends the batch b of stage k to r
  module _ (b : Batch V A) (r : ℕ) (k : Stage) (holds : BatchHolds P w want t co b) (inb : h'.inbox ≡ h.inbox)
      (is_p : b.sender ≡ p) (is_r : b.receiver ≡ r) (is_e : b.epoch ≡ co.epoch) (is_k : code_of (stage_of_body b.body) ≡ code_of k)
      (before : (s : Stage) → code_of s ≡ code_of k → is_shown co r (Some h) s ≡ false)
      (more : (q : ℕ) (s : Stage) → cond {A = ℕ} (is_shown co q (Some h) s) 1 0 ≤ cond (is_shown co q (Some h') s) 1 0)
      (now : (s : Stage) → code_of s ≡ code_of k → is_shown co r (Some h') s ≡ true)
      (later : (q : ℕ) (s : Stage) → has (parties co) q ≡ true → p ≢ q → is_from p q co.epoch s b ≡ false → is_shown co q (Some h') s ≡ is_shown co q (Some h) s) where
    from-b : (p' q e : ℕ) (s : Stage) → is_from p' q e s b ≡ true → (p' ≡ p) × (q ≡ r) × (e ≡ co.epoch) × (code_of s ≡ code_of k)
    from-b p' q e s y = let f = and_parts (b.receiver == q) _ y in let g = of-parts p' e s b f.1 in
        (sym g.0 ∙ is_p, sym (eqb-true _ _ f.0) ∙ is_r, sym g.1 ∙ is_e, g.2 ∙ is_k)

    none-yet : (s : Stage) → code_of s ≡ code_of k → standing flight (host_of r) p r co.epoch s ≡ 0
    none-yet s e =
        let few = N.only_sent p r s (ap is_some here) in
        let shown : cond {A = ℕ} (is_shown co r (host_of p) s) 1 0 ≡ 0 = ap (λ o. cond (is_shown co r o s) 1 0) here ∙ ap (λ x. cond x 1 0) (before s e) in omega (arith, few, shown)

    standing-b : (p' q e : ℕ) (s : Stage) → standing (flight ++ b ∷ []) (host_of' q) p' q e s ≡ standing flight (host_of q) p' q e s + cond (is_from p' q e s b) 1 0
    standing-b p' q e s =
        let a = count_by-append (is_from p' q e s) flight (b ∷ []) in let one = count_by-cons (is_from p' q e s) b [] in
        let inbox = counted-same p' q e s (ap (count_by (is_of p' e s)) inb) in omega (arith, a, one, inbox)

    -- none stood before of what it is
    none-of : (p' q e : ℕ) (s : Stage) → is_from p' q e s b ≡ true → standing flight (host_of q) p' q e s ≡ 0
    none-of p' q e s y = let f = from-b p' q e s y in
        (λ i. standing flight (host_of (f.1 i)) (f.0 i) (f.1 i) (f.2 i) s) ∙ none-yet s f.3

    pub network-sent : NetworkHolds P w want t co host_of' (flight ++ b ∷ [])
    network-sent = record {
      in_flight = Each-append _ flight (b ∷ []) N.in_flight (holds, tt);
      in_inbox = inboxes (subst (InboxHolds p) (sym inb) inbox-here);
      at_most_one = λ p' q e s. let all = standing-b p' q e s in let was = N.at_most_one p' q e s in by_test (is_from p' q e s b)
          (λ y. let none = none-of p' q e s y in let one : cond {A = ℕ} (is_from p' q e s b) 1 0 ≡ 1 = ap (λ x. cond x 1 0) y in omega (arith, all, none, one))
          (λ n. let one : cond {A = ℕ} (is_from p' q e s b) 1 0 ≡ 0 = ap (λ x. cond x 1 0) n in omega (arith, all, was, one));
      only_sent = λ p' q s up.
          let all = standing-b p' q co.epoch s in let was = N.only_sent p' q s (sym (up-same p') ∙ up) in by_test (is_from p' q co.epoch s b)
          (λ y. let none = none-of p' q co.epoch s y in let one : cond {A = ℕ} (is_from p' q co.epoch s b) 1 0 ≡ 1 = ap (λ x. cond x 1 0) y in let f = from-b p' q co.epoch s y in
          let shown : cond {A = ℕ} (is_shown co q (host_of' p') s) 1 0 ≡ 1 = (λ i. cond (is_shown co (f.1 i) (host_of' (f.0 i)) s) 1 0) ∙ (ap (λ o. cond (is_shown co r o s) 1 0) here' ∙ ap (λ x. cond x 1 0) (now s f.3)) in
          omega (arith, all, none, one, shown))
          (λ n. let one : cond {A = ℕ} (is_from p' q co.epoch s b) 1 0 ≡ 0 = ap (λ x. cond x 1 0) n in
          let grows = shown-at Less q s p' (λ e. more q s) (λ x. le_refl _) in omega (arith, all, was, one, grows));
      all_sent = λ p' q s up up' party party' apart.
          let all = standing-b p' q co.epoch s in let was = N.all_sent p' q s (sym (up-same p') ∙ up) (sym (up-same q) ∙ up') party party' apart in by_test (is_from p' q co.epoch s b)
          (λ y. let none = none-of p' q co.epoch s y in let one : cond {A = ℕ} (is_from p' q co.epoch s b) 1 0 ≡ 1 = ap (λ x. cond x 1 0) y in let f = from-b p' q co.epoch s y in
          let shown : cond {A = ℕ} (is_shown co q (host_of' p') s) 1 0 ≡ 1 = (λ i. cond (is_shown co (f.1 i) (host_of' (f.0 i)) s) 1 0) ∙ (ap (λ o. cond (is_shown co r o s) 1 0) here' ∙ ap (λ x. cond x 1 0) (now s f.3)) in
          omega (arith, all, none, one, shown))
          (λ n. let one : cond {A = ℕ} (is_from p' q co.epoch s b) 1 0 ≡ 0 = ap (λ x. cond x 1 0) n in
          let same = shown-at Same q s p' (λ e. ap (λ x. cond x 1 0) (later q s party' (λ x. apart (e ∙ x)) (subst (λ z. is_from z q co.epoch s b ≡ false) e n))) (λ x. refl) in omega (arith, all, was, one, same));
    }
