-- The vertices for which a place asks.
use Rattle.std.proofs.Common.{◌≡◌, ◌<◌, ℕ, List, [], ◌∷◌, Bool, true, false, not, ◌==◌, ◌&&◌, ◌||◌, map, filter, flat_map, refl, sym, ap, ◌∙◌, eqb-true}
use Rattle.std.specs.Prelude.{is_none}
use Rattle.std.specs.List.{list_any}
use Rattle.std.proofs.Math.Bool.{and-true, and_assoc, and_comm}
use Rattle.std.proofs.lemmas.Bool.{and_right, or_from, both_ways}
use Rattle.gr_base.specs.declared.records.NumberedEdge.{NumberedEdge}
use Rattle.gr_base.specs.Rising.{has}
use Rattle.gr_base.proofs.Rising.{filter-rises}
use Rattle.gr_program.specs.declared.copy.VertexCopy.{VertexCopy}
use Rattle.gr_program.specs.Program.{Program}
use Rattle.gr_copies.specs.declared.view.RebuildView.{RebuildView}
use Rattle.gr_copies.specs.Granter.{is_retiring}
use Rattle.gr_log.specs.Log.{Log}
use Rattle.gr_log.specs.Directory.{Entry, rising}
use Rattle.gr_rules.specs.Rows.{row}
use Rattle.gr_rules.specs.Taken.{log_at, is_granter, Ends, taken, ask_body}
use Rattle.gr_agree.specs.Truth.{Truth, held, true_entry}
use Rattle.gr_agree.specs.Logs.{Sound}
use Rattle.gr_agree.specs.Rebuilt.{is_taken_by, is_asker, true_asks}
use Rattle.gr_lists.proofs.Tests.{by_test}
use Rattle.gr_lists.proofs.Each.{Each-both}
use Rattle.gr_lists.proofs.Any.{has-filter, list_any-and, list_any-none, list_any-flat_map}
use Rattle.gr_lists.proofs.Numbers.{same-numbers}
use Rattle.gr_law_rebuilds.proofs.Rebuild.Selecting.{any-filter, any-map, rising-rises, has-rising}
use Rattle.gr_law_rebuilds.proofs.Rebuild.Logged.{IsSaid, true_ends}
use Rattle.gr_law_rebuilds.proofs.Rebuild.Taken.{any-taken}

module _ {V A : Type 0} (P : Program V A) (t : Truth V) (S : Sound P t) (w : RebuildView) (logs : List Log) (theta : w.theta ≡ t.theta)
    (within : (v q : ℕ) → has t.vertices v ≡ true → held t q v ≡ true → q < w.places)
    (said : (r : ℕ) → is_retiring w r ≡ true → IsSaid t r (log_at logs r).committed) (p : ℕ)
    (rows : List (VertexCopy V)) (lacks : (v : ℕ) → has t.vertices v ≡ true → is_none (row rows v) ≡ not (held t p v)) (q : ℕ) where
  -- what p lacks and q grants
  abbrev wanted : Entry → Bool
  wanted e = is_none (row rows e.vertex) && is_granter w e q

  -- an edge that p takes, and that begins or ends at v
  abbrev takes : ℕ → NumberedEdge → Bool
  takes v a = is_taken_by w t p a && ((a.edge.src == v) || (a.edge.dst == v))

  abbrev ends_list : Ends → List Entry
  ends_list x = x.src ∷ x.dst ∷ []

  -- whether an end of an edge is v, and is asked for
  abbrev asks_end : ℕ → Ends → Bool
  asks_end v x = list_any (λ e. wanted e && (e.vertex == v)) (ends_list x)

  end-is : (v u : ℕ) → (wanted (true_entry t u) && (u == v)) ≡ ((u == v) && wanted (true_entry t v))
  end-is v u = by_test (u == v)
      (λ e. rw e (and-true (wanted (true_entry t u)) ∙ ap (λ n. wanted (true_entry t n)) (eqb-true u v e)))
      (λ e. rw e (and_right (wanted (true_entry t u)) false refl))

  asked-end : (v : ℕ) (a : NumberedEdge) → asks_end v (true_ends t a) ≡ (((a.edge.src == v) || (a.edge.dst == v)) && wanted (true_entry t v))
  asked-end v a = (λ i. end-is v a.edge.src i || (end-is v a.edge.dst i || false)) ∙ spread (a.edge.src == v) (a.edge.dst == v) (wanted (true_entry t v))
    where
      spread : (x y z : Bool) → ((x && z) || ((y && z) || false)) ≡ ((x || y) && z)
      spread true y true = refl
      spread true true false = refl
      spread true false false = refl
      spread false true true = refl
      spread false true false = refl
      spread false false z = refl

  -- the vertices of the body
  abbrev asked : List ℕ
  asked = map (λ (e : Entry). e.vertex) (filter wanted (flat_map ends_list (taken w logs p)))

  asked-has : (v : ℕ) → has asked v ≡ (list_any (takes v) t.edges && wanted (true_entry t v))
  asked-has v = any-map (λ n. n == v) (λ (e : Entry). e.vertex) (filter wanted (flat_map ends_list (taken w logs p)))
      ∙ (any-filter (λ e. e.vertex == v) wanted (flat_map ends_list (taken w logs p))
      ∙ (list_any-flat_map (λ e. wanted e && (e.vertex == v)) ends_list (taken w logs p)
      ∙ (any-taken P t S w logs theta within said p (asks_end v)
      ∙ ((λ i. list_any (λ a. is_taken_by w t p a && asked-end v a i) t.edges)
      ∙ ((λ i. list_any (λ a. sym (and_assoc (is_taken_by w t p a) ((a.edge.src == v) || (a.edge.dst == v)) (wanted (true_entry t v))) i) t.edges)
      ∙ list_any-and (takes v) (wanted (true_entry t v)) t.edges)))))

  -- an edge that p takes ends at vertices
  taken-there : (v : ℕ) → has t.vertices v ≡ false → list_any (takes v) t.edges ≡ false
  taken-there v gone = list_any-none (takes v) t.edges (Each-both _ _ _ (λ a s d. and_right (is_taken_by w t p a) _ (or_from _ _ (other a.edge.src s) (other a.edge.dst d))) t.edges S.sources S.targets)
    where
      other : (u : ℕ) → has t.vertices u ≡ true → (u == v) ≡ false
      other u m = by_test (u == v) (λ e. absurd (both_ways _ gone (ap (has t.vertices) (sym (eqb-true u v e)) ∙ m))) (λ e. e)

  pub ask-body-true : ask_body w logs p rows q ≡ true_asks w t p q
  unfolding ask_body true_asks is_asker
  ask-body-true = same-numbers (rising asked) (filter (λ v. is_asker w t v p && is_granter w (true_entry t v) q) t.vertices) (rising-rises asked) (filter-rises (λ n. n) (λ v. is_asker w t v p && is_granter w (true_entry t v) q) t.vertices S.rise) (λ v.
      has-rising asked v ∙ (asked-has v ∙ (both v ∙ sym (has-filter (λ v. is_asker w t v p && is_granter w (true_entry t v) q) t.vertices v))))
    where
      both : (v : ℕ) → (list_any (takes v) t.edges && wanted (true_entry t v)) ≡ (has t.vertices v && (is_asker w t v p && is_granter w (true_entry t v) q))
      both v = by_test (has t.vertices v)
          (λ m. let l = lacks v m in rw (m, l) (sym (and_assoc (list_any (takes v) t.edges) (not (held t p v)) (is_granter w (true_entry t v) q)) ∙ ap (λ b. b && is_granter w (true_entry t v) q) (and_comm (list_any (takes v) t.edges) (not (held t p v)))))
          (λ n. let none = taken-there v n in rw (n, none) refl)
