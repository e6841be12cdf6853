-- An install and an adoption keep the invariant.
use Rattle.std.proofs.Common.{◌≡◌, ℕ, ◌+◌, ◌<◌, ◌≤◌, true, false, cond, not, ◌==◌, ◌&&◌, ◌||◌, nat_lt, refl, sym, ap, ◌∙◌, arith, Some, set, length, eq-eqb, ne_eqb, inl, ⊎_elim, le_refl, le-ltb}
use Rattle.std.specs.Prelude.{IsTrue}
use Rattle.std.proofs.lemmas.Bool.{and_left, and_right, not_from_false}
use Rattle.std.proofs.lemmas.List.{length-set}
use Rattle.gr_base.specs.Rising.{has}
use Rattle.gr_program.specs.Program.{Program}
use Rattle.gr_log.specs.Log.{Log, cut_log}
use Rattle.gr_batch.specs.declared.stage.Stage.{Stage}
use Rattle.gr_batch.specs.Stages.{is_end, is_stage}
use Rattle.gr_batch.specs.Order.{place_in}
use Rattle.gr_batch.specs.Bodies.{is_of}
use Rattle.gr_view.specs.declared.coordinator.Mode.{Mode}
use Rattle.gr_view.specs.declared.coordinator.Mode.TheVariants as mode
use Rattle.gr_view.specs.Modes.{is_open, is_rebuild}
use Rattle.gr_view.specs.Decisions.{parties}
use Rattle.gr_cluster.specs.Tables.{Host, Cluster, host, log, with_host, with_log, view_of, wanted_in}
use Rattle.gr_cluster.specs.Stages.{stages_of, has_stage}
use Rattle.gr_cluster.specs.Work.{first_stage}
use Rattle.gr_cluster.specs.Work.{installed_host, adopted_host}
use Rattle.gr_agree.specs.Truth.{Truth}
use Rattle.gr_agree.specs.Hosts.{HostOpen, pending_rows, pending_arcs}
use Rattle.gr_agree.specs.Network.{is_shown}
use Rattle.gr_agree.specs.Agree.{Agree}
use Rattle.gr_lists.proofs.Counts.{count_by-filter, count_by-filter-le}
use Rattle.gr_lists.proofs.Each.{Each-filter}
use Rattle.gr_law_rounds.specs.Network.{IsKept}
use Rattle.gr_law_rounds.proofs.Network.Frame.{host-with_host, host-with_host-other, within}
use Rattle.gr_law_rounds.proofs.Network.Same.{log-here, log-elsewhere, committed-here}
use Rattle.gr_law_rounds.proofs.Round.Changed.{reports-same, changed-kept}
use Rattle.gr_law_rounds.proofs.Round.Network.{of-parts, inbox-here, network-line}
use Rattle.gr_law_rounds.proofs.Round.InEpoch.{party as party_at, opened as open_at, network-here}

-- the first stage of a mode: one of its stages, and before all others
first-stage : (m : Mode) → IsTrue (is_open m) → IsTrue (has_stage (stages_of m) (first_stage m))
first-stage mode.Failed o = absurd (let bad : false ≡ true = o in cc)
first-stage mode.Done o = absurd (let bad : false ≡ true = o in cc)
first-stage mode.Lost o = absurd (let bad : false ≡ true = o in cc)
first-stage _ o = refl

pub first-place : (m : Mode) → place_in (first_stage m) ≡ 0
first-place mode.Running = refl
first-place _ = refl

-- the stable layer of a host is what the first stage starts from
abbrev pub HasStart : {V A : Type 0} → Program V A → Truth V → Cluster V A → ℕ → Host V A → Type 0
HasStart P t c p h = let k = place_in (first_stage c.coordinator.mode) + 0 in let b = is_rebuild c.coordinator.mode in
    (h.stable ≡ pending_rows P (view_of P c) (wanted_in P c) t p k b) × (h.arcs ≡ pending_arcs P (view_of P c) (wanted_in P c) t p k b)

module _ {V A : Type 0} (P : Program V A) (t : Truth V) (c : Cluster V A) (AG : Agree P t c) (p : ℕ) (h : Host V A) (at : host c p ≡ Some h) where
  -- a reborn place has adopted the epoch
  behind-not_reborn : {X : Type 0} → h.epoch < c.coordinator.epoch → IsTrue (has c.coordinator.reborn p) → X
  behind-not_reborn lt r = absurd (let e = (AG.open_work.reborn p h at r).epoch in omega (arith, lt, e))

  -- an install
  pub install-kept : h.installed < c.coordinator.commits → IsKept P t c (with_host p (Some (installed_host h)) c)
  install-kept lt =
      let O = open_at P t c AG p h at in
      let both : (h.installed + 1 ≡ c.coordinator.commits) × (h.epoch < c.coordinator.epoch) = ⊎_elim (λ e. absurd (omega (arith, lt, e))) (λ k. k) O.installed in
      let is : (h.installed + 1 == c.coordinator.commits) ≡ true = eq-eqb _ _ both.0 in
      let no : (h.installed + 1 + 1 == c.coordinator.commits) ≡ false = (let e = both.0 in ne_eqb (h.installed + 1 + 1) c.coordinator.commits (λ x. absurd (omega (arith, e, x)))) in
      let h' = installed_host h in
      changed-kept P t c AG p h h' at c.logs refl (λ q. refl) (λ q ne. refl) c.flight c.serial c.coordinator.ready c.coordinator.due
      (ap (λ b. cond b h.pending h.pending) no ∙ sym (ap (λ b. cond b h.pending h.stable) is))
      (ap (λ b. cond b h.pending_arcs h.pending_arcs) no ∙ sym (ap (λ b. cond b h.pending_arcs h.arcs) is))
      AG.committed.shaped.ready
      (λ y. record { epoch = O.epoch; installed = inl both.0; at_epoch = λ e. absurd (let later = both.1 in omega (arith, later, e)) })
      (behind-not_reborn both.1)
      (network-here P t c AG p h at h' refl (λ q s. refl))
      (reports-same P t c AG p h h' at refl)

  -- a place shows nothing as sent at the start of an epoch
  shows-none : (q : ℕ) (s : Stage) → is_shown c.coordinator q (Some (adopted_host c.coordinator.epoch c.coordinator.mode h)) s ≡ false
  shows-none q s =
      let lt : nat_lt (place_in s) (place_in (first_stage c.coordinator.mode)) ≡ false = ap (nat_lt (place_in s)) (first-place c.coordinator.mode) ∙ le-ltb (place_in s) 0 (omega arith) in
      ap (λ b. (c.coordinator.epoch == c.coordinator.epoch) && ((has_stage (stages_of c.coordinator.mode) s && not (is_end s)) && (b || (is_stage s (first_stage c.coordinator.mode) && false)))) lt
      ∙ and_right (c.coordinator.epoch == c.coordinator.epoch) _ (and_right (has_stage (stages_of c.coordinator.mode) s && not (is_end s)) _ (and_right (is_stage s (first_stage c.coordinator.mode)) false refl))

  -- an adoption
  pub adopt-kept : c.coordinator.commits ≤ h.installed → h.epoch < c.coordinator.epoch → (h.installed ≡ c.coordinator.commits → HasStart P t c p h)
      → IsKept P t c (with_log p (cut_log (log c p)) (with_host p (Some (adopted_host c.coordinator.epoch c.coordinator.mode h)) c))
  adopt-kept le lt starts =
      let co = c.coordinator in
      let is : h.installed ≡ co.commits = ⊎_elim (λ e. e) (λ k. absurd (let one = k.0 in omega (arith, le, one))) (open_at P t c AG p h at).installed in
      let no : (h.installed + 1 == co.commits) ≡ false = ne_eqb (h.installed + 1) co.commits (λ x. absurd (omega (arith, x, is))) in
      let S = starts is in
      let h' = adopted_host co.epoch co.mode h in
      let inside : p < length c.logs = (let w = within c p h h at in let a = AG.committed.shaped.hosts in let b = AG.committed.shaped.logs in omega (arith, w, a, b)) in
      let cut = cut_log (log c p) in
      let here = log-here c.logs p cut inside in
      let older : (h.epoch == co.epoch) ≡ false = ne_eqb h.epoch co.epoch (λ x. absurd (omega (arith, lt, x))) in
      changed-kept P t c AG p h h' at (set c.logs p cut) (length-set c.logs p cut) (committed-here c.logs p cut inside refl) (log-elsewhere c.logs p cut inside) c.flight c.serial co.ready co.due
      (ap (λ b. cond b h.stable h.stable) no ∙ sym (ap (λ b. cond b h.pending h.stable) no))
      (ap (λ b. cond b h.arcs h.arcs) no ∙ sym (ap (λ b. cond b h.pending_arcs h.arcs) no))
      AG.committed.shaped.ready
      (λ y. record {
        epoch = le_refl _;
        installed = inl is;
        at_epoch = λ k. record {
          installed = is;
          stage = first-stage co.mode;
          idle = λ f. ap (λ n. n + 0) (first-place co.mode);
          not_sent = λ x. refl;
          unsent_left = λ x. absurd (let bad : false ≡ true = x in cc);
          needed = λ s has l. absurd (let z = first-place co.mode in omega (arith, z, l));
          rows = S.0;
          arcs = S.1;
          tail = ap (λ (l : Log). l.appended) here;
          not_torn = ap (λ (l : Log). l.torn) here;
          reported = λ x. absurd (let bad : false ≡ true = x in cc);
        };
      })
      (behind-not_reborn lt)
      (network-line P (view_of P c) (wanted_in P c) t co (host c) (host (with_host p (Some h') c)) c.flight p h h' at (host-with_host c p h h' at) (host-with_host-other c p h h' at) AG.open_work.network
      (Each-filter _ (λ b. not (nat_lt b.epoch co.epoch)) h.inbox (inbox-here P (view_of P c) (wanted_in P c) t co (host c) (host (with_host p (Some h') c)) c.flight p h h' at (host-with_host c p h h' at) (host-with_host-other c p h h' at) AG.open_work.network))
      (λ p' e s. count_by-filter-le (is_of p' e s) (λ b. not (nat_lt b.epoch co.epoch)) h.inbox)
      (λ p' s. count_by-filter (is_of p' co.epoch s) (λ b. not (nat_lt b.epoch co.epoch)) (λ b f.
      let k = of-parts p' co.epoch s b f in let e = k.1 in not_from_false _ (le-ltb b.epoch co.epoch (omega (arith, e)))) h.inbox)
      (λ q s. let a : cond {A = ℕ} (is_shown co q (Some h) s) 1 0 ≡ 0 = ap (λ x. cond x 1 0) (and_left _ _ older) in omega (arith, a))
      (λ q s m ne. shows-none q s ∙ sym (and_left _ _ older)))
      (reports-same P t c AG p h h' at (and_right (co.epoch == co.epoch) false refl ∙ sym (and_left _ _ older)))

-- where no rebuild is open
module _ {V A : Type 0} (P : Program V A) (t : Truth V) (c : Cluster V A) (AG : Agree P t c) (no_rebuild : is_rebuild c.coordinator.mode ≡ false) (p : ℕ) (h : Host V A) (at : host c p ≡ Some h) where
  pub party : has (parties c.coordinator) p ≡ true
  party = party_at P t c AG p h at

  pub opened : HostOpen P (view_of P c) (wanted_in P c) t c.coordinator p h (log c p)
  opened = open_at P t c AG p h at
