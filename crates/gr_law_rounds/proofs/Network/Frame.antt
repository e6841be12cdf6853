-- A host set at one place, and what it leaves elsewhere.
use Rattle.std.proofs.Common.{◌≡◌, ◌≢◌, ℕ, ◌<◌, length, sym, ap, ◌∙◌, Option, Some, None, get_or-set_same, get_or-set_other, ⊎_elim, set}
use Rattle.std.proofs.lemmas.List.{get_or_past, set-get_or}
use Rattle.std.proofs.lemmas.Bool.{cases_lt}
use Rattle.gr_cluster.specs.Tables.{Host, Cluster, host, with_host}
use Rattle.gr_lists.proofs.Tests.{by_same}

module _ {V A : Type 0} (c : Cluster V A) (p : ℕ) where
  -- the host that stands there changes nothing
  pub with_host-same : (o : Option (Host V A)) → host c p ≡ o → set c.hosts p o ≡ c.hosts
  with_host-same o at = ap (set c.hosts p) (sym at) ∙ set-get_or c.hosts p None

  module _ (h h' : Host V A) (at : host c p ≡ Some h) where
    pub within : p < length c.hosts
    within = ⊎_elim (λ l. l) (λ g. absurd (let e : None ≡ Some h = sym (get_or_past c.hosts p None g) ∙ at in cc)) (cases_lt p (length c.hosts))

    pub host-with_host : host (with_host p (Some h') c) p ≡ Some h'
    host-with_host = get_or-set_same c.hosts p (Some h') None within

    pub host-with_host-other : (q : ℕ) → q ≢ p → host (with_host p (Some h') c) q ≡ host c q
    host-with_host-other q ne = get_or-set_other c.hosts p q (Some h') None ne

    -- what holds of the new host, and of each host elsewhere, holds of each host
    pub each-host : (Q : ℕ → Host V A → Type 0) → Q p h' → ((q : ℕ) (k : Host V A) → host c q ≡ Some k → Q q k) → (q : ℕ) (k : Host V A) → host (with_host p (Some h') c) q ≡ Some k → Q q k
    each-host Q here there q k e = by_same q p
        (λ same. let e' : Some h' ≡ Some k = sym host-with_host ∙ (ap (host (with_host p (Some h') c)) (sym same) ∙ e) in
        let e'' : h' ≡ k = cc in rw (same, ← e'') here)
        (λ ne. there q k (sym (host-with_host-other q ne) ∙ e))

    -- a function of the host at each place
    pub same-of-host : {X : Type 0} (f : Option (Host V A) → X) → f (Some h') ≡ f (Some h) → (q : ℕ) → f (host (with_host p (Some h') c) q) ≡ f (host c q)
    same-of-host f e q = by_same q p
        (λ same. ap (λ r. f (host (with_host p (Some h') c) r)) same ∙ (ap f host-with_host ∙ (e ∙ (ap f (sym at) ∙ ap (λ r. f (host c r)) (sym same)))))
        (λ ne. ap f (host-with_host-other q ne))
