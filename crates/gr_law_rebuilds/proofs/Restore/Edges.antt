-- The places of edges after a rebuild.
use Rattle.std.proofs.Common.{◌≡◌, ℕ, ◌+◌, Bool, true, false, ◌==◌, ◌&&◌, ◌||◌, length, refl, sym, ap, ◌∙◌, if◌then◌else◌, eqb-true}
use Rattle.std.proofs.Math.Bool.{or-false}
use Rattle.std.proofs.lemmas.Bool.{and_left, and_right, both_ways, false_from_ne_true}
use Rattle.gr_base.specs.declared.records.NumberedEdge.{NumberedEdge}
use Rattle.gr_base.specs.Rising.{RisesBy}
use Rattle.gr_program.specs.Program.{Program}
use Rattle.gr_copies.specs.declared.view.RebuildView.{RebuildView}
use Rattle.gr_copies.specs.Granter.{is_retiring}
use Rattle.gr_log.specs.Directory.{with_items}
use Rattle.gr_agree.specs.Truth.{Truth, high, place_of, arcs_at}
use Rattle.gr_agree.specs.Rebuilt.{is_taken_by, true_taken, rebuilt}
use Rattle.gr_lists.proofs.Tests.{by_test}
use Rattle.gr_law_rebuilds.proofs.Restore.Holders.{master-stays}
use Rattle.gr_law_rebuilds.proofs.Restore.Items.{items-chosen, length-chosen}

-- a function of one of two numbers
of-chosen : (f : ℕ → ℕ) (b : Bool) (x y : ℕ) → (if b then f x else f y) ≡ f (if b then x else y)
of-chosen f true x y = refl
of-chosen f false x y = refl

module _ {V A : Type 0} (P : Program V A) (w : RebuildView) (want : ℕ) (t : Truth V) where
  abbrev t' : Truth V
  t' = rebuilt P w want t

  -- the end by which the cut names the place of an edge
  abbrev pub cut_end : NumberedEdge → ℕ
  cut_end a = if high t a.edge.dst then a.edge.src else a.edge.dst

  pub place-by_end : (a : NumberedEdge) → place_of t a ≡ t.master (cut_end a)
  place-by_end a = of-chosen t.master (high t a.edge.dst) a.edge.src a.edge.dst

  pub place_after-by_end : (a : NumberedEdge) → place_of t' a ≡ t'.master (cut_end a)
  place_after-by_end a = of-chosen t'.master (high t a.edge.dst) a.edge.src a.edge.dst

  -- an edge stays where its place does not retire
  pub place-stays : (a : NumberedEdge) → is_retiring w (place_of t a) ≡ false → place_of t' a ≡ place_of t a
  place-stays a r =
      let r' : is_retiring w (t.master (cut_end a)) ≡ false = ap (is_retiring w) (sym (place-by_end a)) ∙ r in
      place_after-by_end a ∙ (master-stays P w want t (cut_end a) r' ∙ sym (place-by_end a))

  module _ (p : ℕ) (stays : is_retiring w p ≡ false) where
    -- the edges of a place that does not retire: its old ones, and those that it takes
    either : (a : NumberedEdge) → (place_of t' a == p) ≡ ((place_of t a == p) || is_taken_by w t p a)
    either a = by_test (is_retiring w (place_of t a))
        (λ r.
        let ne : (place_of t a == p) ≡ false = false_from_ne_true _ (λ k. both_ways _ stays (ap (is_retiring w) (sym (eqb-true (place_of t a) p k)) ∙ r)) in
        sym (λ i. ne i || (r i && (place_of t' a == p))))
        (λ r. ap (λ q. q == p) (place-stays a r) ∙ sym (ap (λ b. (place_of t a == p) || (b && (place_of t' a == p))) r ∙ or-false (place_of t a == p)))

    apart : (a : NumberedEdge) → ((place_of t a == p) && is_taken_by w t p a) ≡ false
    apart a = by_test (place_of t a == p)
        (λ e. and_right (place_of t a == p) _ (and_left _ _ (ap (is_retiring w) (eqb-true (place_of t a) p e) ∙ stays)))
        (λ e. and_left _ _ e)

    pub arcs-after : RisesBy (λ (a : NumberedEdge). a.number) t.edges → with_items (λ a. a.number) (true_taken w t p) (arcs_at t p) ≡ arcs_at t' p
    unfolding true_taken arcs_at
    arcs-after rise = items-chosen (λ a. place_of t a == p) (is_taken_by w t p) (λ a. place_of t' a == p) either (λ a. a.number) t.edges rise

    pub length-arcs_after : length (arcs_at t' p) ≡ length (arcs_at t p) + length (true_taken w t p)
    unfolding true_taken arcs_at
    length-arcs_after = length-chosen (λ a. place_of t a == p) (is_taken_by w t p) (λ a. place_of t' a == p) either apart t.edges
