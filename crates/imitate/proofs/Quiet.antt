-- Files that tell their content: what they go on telling over loads, and over a run that leaves them.
use Rattle.std.proofs.Common.{◌≡◌, ◌∙◌, ℕ, List, length, take, Bool, false, Option, Some, None, is_some, refl, sym, ap, subst, arith}
use Rattle.std.proofs.lemmas.Bool.{false≢true}
use Rattle.std.proofs.lemmas.List.{take_all}
use Rattle.std.specs.Prelude.{IfSome, IsSomeAnd}
use Rattle.gr_outside.specs.Causes.{Rose}
use Rattle.gr_outside.specs.Files.{FilesSeen, FilesTold, Named, HasWritten, LetsGo, KeepsOthers, bytes_of}
use Rattle.gr_lists.proofs.Tests.{by_test}
use Rattle.gr_play.specs.Tracing.{Traces, TracesPart}
use Rattle.imitate.specs.Contents.{KeepsFiles, KeepsAllBut}
use Rattle.imitate.specs.Loading.{IsQuiet}

some_back : (o r : Option FilesTold) (P : FilesTold → Type 0) → IfSome o (λ t. r ≡ Some t) → IfSome r P → IfSome o P
some_back None r P e h = tt
some_back (Some t) r P e h = subst (λ (x : Option FilesTold). IfSome x P) e h

pub some-then : (o : Option FilesTold) (P Q : FilesTold → Type 0) → IfSome o P → ((t : FilesTold) → P t → Q t) → IfSome o Q
some-then None P Q h f = tt
some-then (Some t) P Q h f = f t h

pub some-both : (o : Option FilesTold) (P Q R : FilesTold → Type 0) → IfSome o P → IfSome o Q → ((t : FilesTold) → P t → Q t → R t) → IfSome o R
some-both None P Q R h k f = tt
some-both (Some t) P Q R h k f = f t h k

pub some-always : (o : Option FilesTold) (P : FilesTold → Type 0) → ((t : FilesTold) → P t) → IfSome o P
some-always None P f = tt
some-always (Some t) P f = f t

-- what is so where something is told needs to be shown only there
pub some-flat : (o : Option FilesTold) (P R : FilesTold → Type 0) → IfSome o P → ((t : FilesTold) → P t → IfSome o R) → IfSome o R
some-flat None P R h f = tt
some-flat (Some t) P R h f = f t h

module _ (a b : FilesSeen) (Q : IsQuiet a b) where
  -- what is told after a quiet load was told before it
  pub quiet-some : (P : FilesTold → Type 0) → IfSome b.told P → IfSome a.told P
  quiet-some P h = some_back a.told b.told P Q.told h

  pub quiet-kept : (c : FilesSeen) → KeepsFiles b c → KeepsFiles a c
  quiet-kept c h = quiet-some (λ t. IsSomeAnd c.told (λ u. u.files ≡ t.files)) h

  pub quiet-write : (c : FilesSeen) → Rose b.write_faults c.write_faults → Rose a.write_faults c.write_faults
  quiet-write c h = subst (λ (n : ℕ). Rose n c.write_faults) Q.write_faults h

  module _ (c : FilesSeen) (name text : List ℕ) where
    pub quiet-traces : Traces b c name text → Traces a c name text
    quiet-traces h = quiet-some (λ t. IsSomeAnd c.told (HasWritten t name text)) h

    pub quiet-part : TracesPart b c name text → TracesPart a c name text
    quiet-part h = record {
      begun = λ is. let p = h.begun is in (p.0, quiet-some (λ t. IsSomeAnd c.told (HasWritten t name (take p.0 text))) p.1);
      not_begun = λ is. quiet-some (λ t. IsSomeAnd c.told (LetsGo t name)) (h.not_begun is);
    }

-- what was told is told still where nothing was done
keeps_same : (o : Option FilesTold) → IfSome o (λ t. IsSomeAnd o (λ u. u.files ≡ t.files))
keeps_same None = tt
keeps_same (Some t) = refl

pub keeps-nothing : (a : FilesSeen) → KeepsFiles a a
keeps-nothing a = keeps_same a.told

-- a text is all of its first part
traces_whole : (o r : Option FilesTold) (name text : List ℕ) → IfSome o (λ t. IsSomeAnd r (HasWritten t name text))
    → IfSome o (λ t. IsSomeAnd r (HasWritten t name (take (length text) text)))
traces_whole o r name text h = subst (λ (x : List ℕ). IfSome o (λ t. IsSomeAnd r (HasWritten t name x))) (sym (take_all (length text) text (omega arith))) h

-- a file with its whole trace has a first part of it
begun_absurd : (o r : Option FilesTold) (is_begun : Bool) (name text : List ℕ) → IfSome r (λ u. is_some u.begun ≡ is_begun) → is_begun ≡ false
    → IfSome o (λ t. IsSomeAnd r (HasWritten t name text)) → IfSome o (λ t. IsSomeAnd r (LetsGo t name))
begun_absurd None r is_begun name text b not h = tt
begun_absurd (Some t) None is_begun name text b not h = absurd h
begun_absurd (Some t) (Some u) is_begun name text b not h = absurd (false≢true (sym not ∙ sym b ∙ ap is_some h.begun))

pub traces-part : (a b : FilesSeen) (name text : List ℕ) → IfSome b.told (λ u. is_some u.begun ≡ b.is_begun) → Traces a b name text → TracesPart a b name text
traces-part a b name text begun h = record {
  begun = λ is. (length text, traces_whole a.told b.told name text h);
  not_begun = λ not. begun_absurd a.told b.told b.is_begun name text begun not h;
}

-- every file but the trace is as before
keeps_others : (o r : Option FilesTold) (name : List ℕ) → IfSome o (λ t. IsSomeAnd r (λ u. u.files ≡ t.files)) → IfSome o (λ t. IsSomeAnd r (λ u. KeepsOthers name t.files u.files))
keeps_others None r name h = tt
keeps_others (Some t) None name h = absurd h
keeps_others (Some t) (Some u) name h = λ other apart. ap (λ (fs : List Named). bytes_of fs other) h

pub kept-others : (a b : FilesSeen) (name : List ℕ) → KeepsFiles a b → KeepsAllBut name a b
kept-others a b name h = keeps_others a.told b.told name h

written_others : (o r : Option FilesTold) (name text : List ℕ) → IfSome o (λ t. IsSomeAnd r (HasWritten t name text)) → IfSome o (λ t. IsSomeAnd r (λ u. KeepsOthers name t.files u.files))
written_others None r name text h = tt
written_others (Some t) None name text h = absurd h
written_others (Some t) (Some u) name text h = h.others

let_others : (o r : Option FilesTold) (name : List ℕ) → IfSome o (λ t. IsSomeAnd r (LetsGo t name)) → IfSome o (λ t. IsSomeAnd r (λ u. KeepsOthers name t.files u.files))
let_others None r name h = tt
let_others (Some t) None name h = absurd h
let_others (Some t) (Some u) name h = h.others

pub traces-others : (a b : FilesSeen) (name text : List ℕ) → Traces a b name text → KeepsAllBut name a b
traces-others a b name text h = written_others a.told b.told name text h

pub part-others : (a b : FilesSeen) (name text : List ℕ) → TracesPart a b name text → KeepsAllBut name a b
part-others a b name text h = by_test b.is_begun
    (λ is. let p = h.begun is in written_others a.told b.told name (take p.0 text) p.1)
    (λ not. let_others a.told b.told name (h.not_begun not))
