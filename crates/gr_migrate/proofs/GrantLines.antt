-- What a place grants in a recovery: no further holders are wanted there.
use Rattle.std.proofs.Common.{◌≡◌, ◌≤◌, ◌-◌, ◌==◌, take, get_or, ℕ, zero, suc, List, [], ◌∷◌, ◌++◌, Bool, true, false, not, Option, Some, None, length, min, if◌then◌else◌, refl, sym, ap, ◌∙◌, arith, eqb-true}
use Rattle.std.specs.Prelude.{◌&&◌, ◌||◌, nat_lt, unwrap_or}
use Rattle.std.specs.List.{filter, list_any, filter_map}
use Rattle.std.specs.Ordering.{nat_cmp}
use Rattle.std.proofs.lemmas.Bool.{lt-ltb}
use Rattle.std.specs.BTreeMap.{is_at}
use Rattle.gr_base.specs.Rising.{RisesBy, has}
use Rattle.gr_base.specs.Places.{below, with_place}
use Rattle.gr_base.proofs.Ranges.{range-within}
use Rattle.gr_lists.proofs.Tests.{by_test}
use Rattle.gr_lists.proofs.Any.{has-filter}
use Rattle.gr_lists.proofs.Chosen.{if-some, filter_map-rises}
use Rattle.gr_program.specs.declared.copy.VertexCopy.{VertexCopy}
use Rattle.gr_copies.specs.declared.view.RebuildView.{RebuildView}
use Rattle.gr_copies.specs.Granter.{is_retiring}
use Rattle.gr_copies.specs.Holders.{extras}
use Rattle.gr_log.specs.Directory.{Entry}
use Rattle.gr_rules.specs.Rows.{entry}
use Rattle.gr_rules.specs.Grants.{new_holders, is_granted, is_granted_to, granted_copy}
use Rattle.gr_rules.specs.Taken.{is_granter}
use Rattle.gr_migrate.specs.declared.grant.AskFrom.{AskFrom}
use Rattle.gr_migrate.specs.Askers.{askers}
use Rattle.gr_migrate.specs.Granted.{grant_line, holders_after, holders_for}
use Rattle.gr_migrate.proofs.Keyed.{is_at-number}
use Rattle.gr_migrate.proofs.Picked.{gathered-more, gathered-same}
use Rattle.gr_copies.proofs.Selecting.{filter-same}

-- ---- no further holders

extras-none : (live : List ℕ) (m : ℕ) (hs : List ℕ) → extras live 0 m hs ≡ []
extras-none live m hs = none (min 0 (length live)) (length hs) _ (omega arith)
  where
    none : (a b : ℕ) (xs : List ℕ) → a ≡ 0 → take (a - b) xs ≡ []
    none a b xs e = let gone : a - b ≡ 0 = omega arith in ap (λ n. take n xs) gone

or-none : (b : Bool) → (b || false) ≡ b
or-none true = refl
or-none false = refl

pub new_holders-recovery : (w : RebuildView) (e : Entry) (asked : List ℕ) → new_holders w 0 e asked ≡ holders_after w e.holders asked
unfolding new_holders holders_after
new_holders-recovery w e asked = filter-same _ _ (below w.places) (λ k d lt.
    let q = get_or (below w.places) k d in
    ap (λ xs. (has e.holders q && not (is_retiring w q)) || (has asked q || has xs q)) (extras-none w.live e.master e.holders)
    ∙ ap (λ b. (has e.holders q && not (is_retiring w q)) || b) (or-none (has asked q)))

is_granted-recovery : (w : RebuildView) (e : Entry) (asked : List ℕ) → is_granted w 0 e asked ≡ (list_any (has w.dead) e.holders || nat_lt 0 (length asked))
is_granted-recovery w e asked =
    ap (λ (xs : List ℕ). list_any (has w.dead) e.holders || (nat_lt 0 (length asked) || nat_lt 0 (length xs))) (extras-none w.live e.master e.holders)
    ∙ ap (λ b. list_any (has w.dead) e.holders || b) (or-none (nat_lt 0 (length asked)))

-- ---- the holders that are granted

pub holders_for-past : (w : RebuildView) (hs asked : List ℕ) (q : ℕ) → w.places ≤ q → None ≡ holders_for w hs asked q
unfolding holders_for holders_after
holders_for-past w hs asked q le =
    let f = λ (r : ℕ). (has hs r && not (is_retiring w r)) || has asked r in
    let off : has (below w.places) q ≡ false = by_test (has (below w.places) q) (λ on. let lt = range-within 0 w.places q on in absurd (omega (arith, lt))) (λ k. k) in
    let none : has (filter f (below w.places)) q ≡ false = has-filter f (below w.places) q ∙ ap (λ b. b && f q) off in
    rw none (never (list_any (has w.dead) hs || nat_lt 0 (length asked)) (filter f (below w.places)))
  where
    never : (b : Bool) (xs : List ℕ) → None ≡ (if b && false then Some xs else None)
    never true xs = refl
    never false xs = refl

pub holders_for-unmet : (w : RebuildView) (hs asked : List ℕ) (q n : ℕ) (m : Bool) → n ≡ length asked → m ≡ list_any (has w.dead) hs → ((n == 0) && not m) ≡ true → None ≡ holders_for w hs asked q
unfolding holders_for
holders_for-unmet w hs asked q n m len met none =
    let m' : list_any (has w.dead) hs ≡ false = sym met ∙ second (n == 0) m none in
    let n' : length asked ≡ 0 = sym len ∙ eqb-true n 0 (first (n == 0) (not m) none) in
    let off : nat_lt 0 (length asked) ≡ false = ap (nat_lt 0) n' in
    rw (m', off) refl
  where
    first : (a b : Bool) → (a && b) ≡ true → a ≡ true
    first true b h = refl
    first false b h = h

    second : (a b : Bool) → (a && not b) ≡ true → b ≡ false
    second true true h = sym h
    second true false h = refl
    second false true h = absurd (cc)
    second false false h = refl

pub holders_for-met : (w : RebuildView) (hs asked : List ℕ) (q n : ℕ) (m : Bool) → n ≡ length asked → m ≡ list_any (has w.dead) hs → ((n == 0) && not m) ≡ false
    → holders_for w hs asked q ≡ (if has (holders_after w hs asked) q then Some (holders_after w hs asked) else None)
unfolding holders_for
holders_for-met w hs asked q n m len met some = ap (λ b. if b && has (holders_after w hs asked) q then Some (holders_after w hs asked) else None) (ap (λ k. list_any (has w.dead) hs || nat_lt 0 k) (sym len) ∙ (ap (λ b. b || nat_lt 0 n) (sym met) ∙ either n m some))
  where
    either : (n : ℕ) (m : Bool) → ((n == 0) && not m) ≡ false → (m || nat_lt 0 n) ≡ true
    either zero true h = refl
    either zero false h = sym h
    either (suc n) true h = refl
    either (suc n) false h = lt-ltb 0 (suc n) (omega arith)

-- ---- one line of the body

pub grant_line-none : {V : Type 0} (w : RebuildView) (p : ℕ) (asked : List ℕ) (q : ℕ) (c : VertexCopy V) → None ≡ holders_for w c.holders asked q → None ≡ grant_line w p asked q c
unfolding holders_for
grant_line-none w p asked q c none =
    let e = entry c in
    go (is_granter w e p) (list_any (has w.dead) c.holders || nat_lt 0 (length asked)) (has (holders_after w c.holders asked) q) (is_granted w 0 e asked) (has (new_holders w 0 e asked) q) (holders_after w c.holders asked) (granted_copy w 0 c asked q)
    (is_granted-recovery w e asked) (ap (λ l. has l q) (new_holders-recovery w e asked)) none
  where
    go : {X Y : Type 0} (a b h g k : Bool) (hs : Y) (x : X) → g ≡ b → k ≡ h → None ≡ (if b && h then Some hs else None) → None ≡ (if a && (g && k) then Some x else None)
    go a true true g k hs x eg ek is = absurd (cc)
    go a true false g k hs x eg ek is = rw (eg, ek) (off a)
      where
        off : (a : Bool) → None ≡ (if a && false then Some x else None)
        off true = refl
        off false = refl
    go a false h g k hs x eg ek is = rw eg (off a)
      where
        off : (a : Bool) → None ≡ (if a && false then Some x else None)
        off true = refl
        off false = refl

pub grant_line-some : {V : Type 0} (w : RebuildView) (p : ℕ) (asked : List ℕ) (q : ℕ) (c : VertexCopy V) (hs : List ℕ) → is_granter w (entry c) p ≡ true → Some hs ≡ holders_for w c.holders asked q
    → (grant_line w p asked q c ≡ Some (granted_copy w 0 c asked q)) × (hs ≡ new_holders w 0 (entry c) asked)
unfolding holders_for
grant_line-some w p asked q c hs on some =
    let e = entry c in
    let r = go (list_any (has w.dead) c.holders || nat_lt 0 (length asked)) (has (holders_after w c.holders asked) q) hs (holders_after w c.holders asked) some in
    let g : is_granted w 0 e asked ≡ true = is_granted-recovery w e asked ∙ r.0 in
    let h : has (new_holders w 0 e asked) q ≡ true = ap (λ l. has l q) (new_holders-recovery w e asked) ∙ r.1 in
    ((rw (on, g, h) refl), r.2 ∙ sym (new_holders-recovery w e asked))
  where
    go : {Y : Type 0} (b h : Bool) (x y : Y) → Some x ≡ (if b && h then Some y else None) → (b ≡ true) × (h ≡ true) × (x ≡ y)
    go true true x y is = (refl, refl, cc)
    go true false x y is = absurd (cc)
    go false h x y is = absurd (cc)

-- the copies of the lines rise as the rows do
pub lines-rise : {V : Type 0} (w : RebuildView) (p : ℕ) (asked : List AskFrom) (q : ℕ) (rows : List (VertexCopy V)) → RisesBy (λ c. c.vertex) rows → RisesBy (λ c. c.vertex) (filter_map (λ c. grant_line w p (askers asked c.vertex) q c) rows)
lines-rise w p asked q rows r =
    filter_map-rises (λ c. grant_line w p (askers asked c.vertex) q c) (λ c. c.vertex) (λ c. c.vertex)
    (λ c. if-some (λ n. n.vertex ≡ c.vertex) (is_granted_to w 0 p q c (askers asked c.vertex)) (granted_copy w 0 c (askers asked c.vertex) q) (λ h. refl)) rows r

-- ---- who asks

pub askers-none : (v : ℕ) → askers [] v ≡ []
unfolding askers
askers-none v = refl

pub askers-more : (xs : List AskFrom) (a : AskFrom) (v : ℕ) (set : List ℕ) (before after : Option (List ℕ)) → unwrap_or before [] ≡ askers xs v → set ≡ with_place (askers xs a.vertex) a.asker
    → after ≡ (if is_at (nat_cmp a.vertex) v then Some set else before) → unwrap_or after [] ≡ askers (xs ++ a ∷ []) v
unfolding askers
askers-more xs a v set before after was here now = by_test (a.vertex == v)
    (λ e.
    let on : is_at (nat_cmp a.vertex) v ≡ true = is_at-number a.vertex v ∙ e in
    ap (λ o. unwrap_or o []) (now ∙ ap (λ b. if b then Some set else before) on) ∙ (here ∙ (ap (λ n. with_place (askers xs n) a.asker) (eqb-true a.vertex v e)
    ∙ sym (gathered-more (λ (b : AskFrom). b.vertex == v) (λ (b : AskFrom). b.asker) [] xs a e))))
    (λ e.
    let off : is_at (nat_cmp a.vertex) v ≡ false = is_at-number a.vertex v ∙ e in
    ap (λ o. unwrap_or o []) (now ∙ ap (λ b. if b then Some set else before) off) ∙ (was ∙ sym (gathered-same (λ (b : AskFrom). b.vertex == v) (λ (b : AskFrom). b.asker) [] xs a e)))
