-- The place of each edge after a rebuild holds both of its ends: where it takes the edge, it asks for an end that it lacks.
use Rattle.std.proofs.Common.{◌≡◌, ℕ, List, [], ◌∷◌, Bool, true, false, not, ◌==◌, ◌&&◌, ◌||◌, refl, sym, ap, ◌∙◌, if◌then◌else◌, eq-eqb}
use Rattle.std.specs.List.{AllByRecursion as Each, list_any}
use Rattle.std.proofs.lemmas.Bool.{and_from, or_left, or_right}
use Rattle.gr_base.specs.declared.records.NumberedEdge.{NumberedEdge}
use Rattle.gr_base.specs.Rising.{has, union}
use Rattle.gr_base.proofs.Union.{has-union}
use Rattle.gr_program.specs.Program.{Program}
use Rattle.gr_copies.specs.declared.view.RebuildView.{RebuildView}
use Rattle.gr_copies.specs.Granter.{is_retiring}
use Rattle.gr_agree.specs.Truth.{Truth, high, held, place_of}
use Rattle.gr_agree.specs.Rebuilt.{is_taken_by, is_asker, true_askers, rebuilt}
use Rattle.gr_agree.specs.Logs.{Sound}
use Rattle.gr_lists.proofs.Tests.{by_test}
use Rattle.gr_lists.proofs.Each.{Each-both, Each-weaker}
use Rattle.gr_lists.proofs.Any.{has-filter}
use Rattle.gr_law_rebuilds.proofs.Restore.Fits.{Fits}
use Rattle.gr_law_rebuilds.proofs.Restore.Holders.{becomes-holder, not-retiring, holder-stays, master-given}
use Rattle.gr_law_rebuilds.proofs.Restore.Edges.{cut_end, place-by_end, place_after-by_end, place-stays}

-- a test that an element of the list passes
abbrev Stands : {X : Type 0} → List X → X → Type 0
Stands {X} xs x = (f : X → Bool) → f x ≡ true → list_any f xs ≡ true

each-stands : {X : Type 0} (xs : List X) → Each (Stands xs) xs
each-stands [] = tt
each-stands {X} (x ∷ xs) = (
  (λ f k. or_left _ _ k),
  Each-weaker (Stands xs) (Stands (x ∷ xs)) (λ y h f k. or_right (f x) _ (h f k)) xs (each-stands xs),
)

module _ {V A : Type 0} (P : Program V A) (w : RebuildView) (want : ℕ) (t : Truth V) (F : Fits w t) where
  abbrev t' : Truth V
  t' = rebuilt P w want t

  asks : (v q : ℕ) → has w.live q ≡ true → held t q v ≡ false → list_any (λ a. is_taken_by w t q a && ((a.edge.src == v) || (a.edge.dst == v))) t.edges ≡ true → has (true_askers w t v) q ≡ true
  unfolding is_asker
  asks v q live lacks takes =
      has-filter (is_asker w t v) (union w.live w.reborn) q
      ∙ and_from _ _ (has-union q w.live w.reborn ∙ or_left _ _ live) (and_from _ _ (ap not lacks) takes)

  module _ (a : NumberedEdge) (stands : Stands t.edges a) (end_there : has t.vertices (cut_end P w want t a) ≡ true) (v : ℕ) (there : has t.vertices v ≡ true) (of : ((a.edge.src == v) || (a.edge.dst == v)) ≡ true) where
    -- the place of an edge of a retiring place is a live one
    taker-holds : is_retiring w (place_of t a) ≡ true → held t' (place_of t' a) v ≡ true
    taker-holds r =
        let e = cut_end P w want t a in let q = place_of t' a in
        let is : q ≡ t'.master e = place_after-by_end P w want t a in
        let g = master-given P w want t F e end_there (ap (is_retiring w) (sym (place-by_end P w want t a)) ∙ r) in
        let holds_end : held t q e ≡ true = ap (λ p. held t p e) is ∙ g.0 in
        let alive : has w.dead q ≡ false = ap (has w.dead) is ∙ g.1 in
        by_test (held t q v)
        (holder-stays P w want t F v there q (not-retiring P w want t q alive))
        (λ lacks.
        let takes = stands (λ b. is_taken_by w t q b && ((b.edge.src == v) || (b.edge.dst == v))) (and_from _ _ (and_from _ _ r (eq-eqb q q refl)) of) in
        becomes-holder P w want t v q (F.within e q end_there holds_end)
        (or_right (held t q v && not (is_retiring w q)) _ (or_left _ _ (asks v q (F.live e q end_there holds_end alive) lacks takes))))

    end-held : held t (place_of t a) v ≡ true → held t' (place_of t' a) v ≡ true
    end-held h = by_test (is_retiring w (place_of t a))
        taker-holds
        (λ r. ap (λ p. held t' p v) (place-stays P w want t a r) ∙ holder-stays P w want t F v there (place_of t a) r h)

  end-there : (a : NumberedEdge) → has t.vertices a.edge.src ≡ true → has t.vertices a.edge.dst ≡ true → has t.vertices (cut_end P w want t a) ≡ true
  end-there a s d = by_test (high t a.edge.dst)
      (λ e. ap (λ b. has t.vertices (if b then a.edge.src else a.edge.dst)) e ∙ s)
      (λ e. ap (λ b. has t.vertices (if b then a.edge.src else a.edge.dst)) e ∙ d)

  module _ (S : Sound P t) where
    -- an edge with both of its ends among the vertices
    abbrev Joined : NumberedEdge → Type 0
    Joined a = (has t.vertices a.edge.src ≡ true) × (has t.vertices a.edge.dst ≡ true)

    abbrev Standing : NumberedEdge → Type 0
    Standing a = Joined a × Stands t.edges a

    standing : Each Standing t.edges
    standing = Each-both Joined (Stands t.edges) Standing (λ a j s. (j, s)) t.edges (Each-both _ _ Joined (λ a s d. (s, d)) t.edges S.sources S.targets) (each-stands t.edges)

    pub sources-held : Each (λ a. held t' (place_of t' a) a.edge.src ≡ true) t.edges
    sources-held = Each-both Standing (λ a. held t (place_of t a) a.edge.src ≡ true) (λ a. held t' (place_of t' a) a.edge.src ≡ true)
        (λ a k h. end-held a k.1 (end-there a (k.0).0 (k.0).1) a.edge.src (k.0).0 (or_left _ _ (eq-eqb a.edge.src a.edge.src refl)) h) t.edges standing S.sources_held

    pub targets-held : Each (λ a. held t' (place_of t' a) a.edge.dst ≡ true) t.edges
    targets-held = Each-both Standing (λ a. held t (place_of t a) a.edge.dst ≡ true) (λ a. held t' (place_of t' a) a.edge.dst ≡ true)
        (λ a k h. end-held a k.1 (end-there a (k.0).0 (k.0).1) a.edge.dst (k.0).1 (or_right (a.edge.src == a.edge.dst) _ (eq-eqb a.edge.dst a.edge.dst refl)) h) t.edges standing S.targets_held
