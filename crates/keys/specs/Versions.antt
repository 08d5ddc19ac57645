-- The written form of a version is itself a legal text, of that version.
use Rattle.std.specs.Prelude.{◌≡◌, refl, true, false, ◌&&◌, []}
use Rattle.std.proofs.Common.{sym, ◌∙◌, ap, subst}
use Rattle.xml.specs.Bytes.{Bytes, all, is_white, is_name, line_ends}
use Rattle.xml.specs.Forest.{Forest, end, elem, text, stamp, write, NotText, Tidy}
use Rattle.xml.specs.Read.{Outcome, whole, broken}
use Rattle.xml.proofs.Lines.{write-lines, lines-no-return, no-return-self}
use Rattle.keys.specs.Result.{ok, r6, r7, r8, r9}
use Rattle.keys.specs.KeyList.{Path, KeyList, above}
use Rattle.keys.specs.Version.{◌▸◌, drop_white, too_large, misplaced, unkeyed, doubled, insert_by, ordered, parsed, read_version, version}
use Rattle.keys.specs.Legal.{RootOrNone, LegalVersion}
use Rattle.keys.specs.VersionRead.{read_version-tidy, read_version-write, read_version-same}
use Rattle.xml.specs.Truth.{clash, bool_by, or_left, or_right}
use Rattle.keys.specs.ResultLaws.{refused-ok, ok-inj, bind_inv, passed}
use Rattle.keys.specs.Sorting.{Into, here, after, Sorting, kept, empty, put, misplaced-kids, misplaced-rest, sorted}
use Rattle.keys.specs.SortedKept.{sorted-small, sorted-placed}
use Rattle.keys.specs.SortedKeys.{sorted-keyed}
use Rattle.keys.specs.SortedOnce.{sorted-single, sorted-again}

-- ---- white space dropped
drop-tidy : (K : KeyList) (p : Path) (f : Forest) → Tidy false f → Tidy false (drop_white K p f) × (NotText f → NotText (drop_white K p f))
unfolding drop_white
drop-tidy K p end h = (tt, λ t. tt)
drop-tidy K p (elem n k r) h = ((h.0, (drop-tidy K (p ▸ n) k h.1).0, (drop-tidy K p r h.2).0), λ t. tt)
drop-tidy K p (stamp t k r) h = clash (sym h.0)
drop-tidy K p (text b r) h =
    let i = drop-tidy K p r h.3 in
    bool_by (λ x. Tidy false (elim x as (λ _. Forest) [ true ↦ drop_white K p r | false ↦ text b (drop_white K p r) ])
    × (⊥ → NotText (elim x as (λ _. Forest) [ true ↦ drop_white K p r | false ↦ text b (drop_white K p r) ])))
    (above K p && all is_white b) (λ _. (i.0, λ t. absurd t)) (λ _. ((h.0, h.1, i.1 h.2, i.0), λ t. absurd t))

drop-root : (K : KeyList) (f : Forest) → Tidy false f → RootOrNone f → RootOrNone (drop_white K [] f)
unfolding drop_white
drop-root K end h o = o
drop-root K (text b r) h o = absurd o
drop-root K (stamp t k r) h o = clash (sym h.0)
drop-root K (elem n k r) h o = rw o refl

-- where every node is in its place there is nothing to drop
drop-placed : (K : KeyList) (p : Path) (f : Forest) → misplaced K p f ≡ false → drop_white K p f ≡ f
unfolding drop_white misplaced
drop-placed K p end m = refl
drop-placed K p (stamp t k r) m = clash m
drop-placed K p (text b r) m =
    rw (or_left (above K p) (misplaced K p r) m, drop_white) (ap (text b) (drop-placed K p r (or_right (above K p) (misplaced K p r) m)))
drop-placed K p (elem n k r) m = rw (drop-placed K (p ▸ n) k (misplaced-kids K p n k r m), drop-placed K p r (misplaced-rest K p n k r m))

-- ---- sorted
into-tidy : {K : KeyList} {p : Path} {n : Bytes} {k f g : Forest} → is_name n ≡ true → Tidy false k → Into K p n k f g → Tidy false f → Tidy false g
into-tidy h t (here a) g = (h, t, g)
into-tidy h t (after a i) g = (g.0, g.1, into-tidy h t i g.2)

sorted-tidy : {K : KeyList} {p : Path} {f g : Forest} → Sorting K p f g → Tidy false f → Tidy false g
sorted-tidy (kept a) h = h
sorted-tidy (empty a) h = h
sorted-tidy (put a x y i) h = into-tidy h.0 (sorted-tidy x h.1) i (sorted-tidy y h.2)

ordered-root : (K : KeyList) (p : Path) (f : Forest) → RootOrNone f → RootOrNone (ordered K p f)
unfolding ordered insert_by
ordered-root K p end o = o
ordered-root K p (text b r) o = absurd o
ordered-root K p (stamp t k r) o = rw o refl
ordered-root K p (elem n k r) o =
    subst (λ z. RootOrNone (ordered K p (elem n k z))) (sym o)
    (bool_by (λ x. RootOrNone (elim x as (λ _. Forest) [ true ↦ insert_by K p n (ordered K (p ▸ n) k) end | false ↦ elem n k end ])) (above K p) (λ _. refl) (λ _. refl))

-- what the refusals 6 to 9 leave is, sorted, a legal version
ordered-legal : (K : KeyList) (f : Forest) → Tidy false f → RootOrNone f → too_large f ≡ false → misplaced K [] f ≡ false → unkeyed K [] f ≡ false
    → doubled K [] f ≡ false → LegalVersion K (ordered K [] f)
ordered-legal K f h o s m u d =
    let t = sorted K [] f m in
    record {
      tidy = sorted-tidy t h;
      root = ordered-root K [] f o;
      small = sorted-small K t ∙ s;
      placed = sorted-placed K t ∙ m;
      keyed = sorted-keyed t u;
      single = sorted-single t u d;
      ascends = sorted-again t u d;
    }

pub parsed-inv : (o : Outcome) (f : Forest) → parsed o ≡ ok f → o ≡ whole f
unfolding parsed
parsed-inv (whole g) f e = cc
parsed-inv (broken p) f e = refused-ok e

-- ---- line ends
-- a text has the version that it has once its line ends are read
pub version-lines : (K : KeyList) (s : Bytes) → version K (line_ends s) ≡ version K s
unfolding version
version-lines K s = rw (no-return-self (line_ends s) (lines-no-return s))

-- so texts that differ in their line ends alone have one version, or are refused under one number
pub same_lines : (K : KeyList) (s t : Bytes) → line_ends s ≡ line_ends t → version K s ≡ version K t
same_lines K s t e = sym (version-lines K s) ∙ ap (version K) e ∙ version-lines K t

-- ---- versions that are legal
-- the version of a text is
pub version-legal : (K : KeyList) (s : Bytes) (v : Forest) → version K s ≡ ok v → LegalVersion K v
unfolding version
version-legal K s v e =
    let f = bind_inv (parsed (read_version (line_ends s))) _ v e in
    let w = drop_white K [] f.0 in
    let x6 = passed r6 (too_large w) _ v f.2 in
    let x7 = passed r7 (misplaced K [] w) _ v x6.1 in
    let x8 = passed r8 (unkeyed K [] w) _ v x7.1 in
    let x9 = passed r9 (doubled K [] w) _ v x8.1 in
    let t = read_version-tidy (line_ends s) f.0 (parsed-inv (read_version (line_ends s)) f.0 f.1) in
    subst (LegalVersion K) (ok-inj x9.1)
    (ordered-legal K w (drop-tidy K [] f.0 t.0).0 (drop-root K f.0 t.0 t.1) x6.0 x7.0 x8.0 x9.0)

-- and its written form is a text of it
pub legal-version : (K : KeyList) (v : Forest) → LegalVersion K v → version K (write v) ≡ ok v
unfolding version parsed
legal-version K v l =
    rw (write-lines false v l.tidy, read_version-write v l.root l.tidy, drop-placed K [] v l.placed, l.small, l.placed, l.keyed, l.single, l.ascends)

-- two versions with one written form are one version
pub same_version : (K : KeyList) (v w : Forest) → LegalVersion K v → LegalVersion K w → write v ≡ write w → v ≡ w
same_version K v w l m = read_version-same v w l.root l.tidy m.root m.tidy
