-- The check of a frontier's contents one after the other (Branches.antt) decides what Walk.antt asks of them.
use Rattle.std.specs.Prelude.{ℕ, ◌+◌, ◌%◌, ◌≤◌, ◌<◌, ◌≡◌, Bool, false, ◌&&◌, List, eqb, length}
use Rattle.std.proofs.Common.{arith, ◌∙◌}
use Rattle.std.proofs.Math.Path.{refl, sym, ap, ap₂}
use Rattle.std.proofs.Math.Bool.{true, not}
use borrow.Author.Tests.{lt-ltb, ltb-true, not-true, eqb-true, eqb-false, leb-true}
use Rattle.std.proofs.Math.Dec.{leb, ltb}
use Rattle.xml.specs.Bytes.{Bytes}
use Rattle.xml.specs.Complete.{join-end, join-assoc}
use Rattle.xml.specs.Forest.{Forest, end, elem, text, stamp, join}
use Rattle.xml.specs.Tape.{head_at, Tape}
use Rattle.xml.specs.TapeLaws.{bytes_at, tape-le, tape-none, front}
use Rattle.xml.specs.Truth.{by-test, clash, not_so, and_left, and_right, and_both}
use Rattle.keys.specs.Legal.{untimed}
use Rattle.timestamp.specs.Times.{Times, same_times}
use Rattle.timestamp.specs.Set.{empty_set, up_to, joined, same_set, apart, subset, first_in}
use Rattle.timestamp.specs.First.{first_member}
use Rattle.timestamp.specs.Tests.{subset-tells}
use Rattle.timestamp.specs.Listed.{listed, Only, only-up-to, same-listed}
use Rattle.timestamp.specs.Parse.{Outcome, refused, accepted, parsed}
use Rattle.timestamp.specs.Parses.{text-parse}
use Rattle.versions.specs.Walk.{times_in, canonical, ever, branches_in, all_timed, contents_apart, together, front_legal}
use Rattle.versions.specs.LegalTexts.{fits, legal-text, legal-set}
use Rattle.versions.specs.Branches.{first, repeats, follows, judged}
use Rattle.versions.specs.Fresh.{Branch, Seen, nothing, more, seen-only, ever-of, fresh-of, seen-fresh, seen_apart, seen-together, length-snoc}

-- what Walk.antt asks of the contents d and f
unfoldable pub asked : ℕ → Times → Forest → Forest → Bool
asked n t d f =
    all_timed n f && leb 2 (length (branches_in n (join d f))) && contents_apart (branches_in n (join d f)) && same_times (together (branches_in n (join d f))) t

first_some : (n : ℕ) (s : ℕ → Bool) → Only n s → 0 < first_in 1024 s 0
first_some n s o =
    by-test (eqb (first_in 1024 s 0) 0)
    (λ e. let z = eqb-true (first_in 1024 s 0) 0 e in absurd (omega (arith, o (first_in 1024 s 0) (first_member s 1024 0 (omega arith)))))
    (λ e. omega (arith, eqb-false (first_in 1024 s 0) 0 e))

module _ (n : ℕ) (small : n ≤ 999) where
  -- the set of a text that is accepted
  only_set : (b : Bytes) (s : ℕ → Bool) → parsed b ≡ accepted s → subset s (up_to n) ≡ true → Only n s
  only_set b s e h v q =
      let x = (text-parse b s e).1 v q in
      only-up-to n v (subset-tells s (up_to n) h v (omega (arith, x.1)) q)

  legal-is : (b : Bytes) (o : Outcome) → parsed b ≡ o → (canonical n b && ever (times_in n b)) ≡ fits n o
  legal-is b o e = legal-text n b small ∙ ap (fits n) e

  -- what is asked gives the tests
  module _ (t : Times) (d : Forest) (b : Bytes) (k r : Forest) (h : asked n t d (stamp b k r) ≡ true) where
    asked-apart : contents_apart (branches_in n (join d (stamp b k r))) ≡ true
    unfolding asked
    asked-apart =
        let g = branches_in n (join d (stamp b k r)) in
        and_right (all_timed n (stamp b k r) && leb 2 (length g)) (contents_apart g)
        (and_left (all_timed n (stamp b k r) && leb 2 (length g) && contents_apart g) (same_times (together g) t) h)

    asked-timed : (canonical n b && untimed k) ≡ true
    unfolding asked all_timed
    asked-timed =
        let g = branches_in n (join d (stamp b k r)) in
        and_left (canonical n b && untimed k) (all_timed n r)
        (and_left (canonical n b && untimed k && all_timed n r) (leb 2 (length g))
        (and_left (canonical n b && untimed k && all_timed n r && leb 2 (length g)) (contents_apart g)
        (and_left (canonical n b && untimed k && all_timed n r && leb 2 (length g) && contents_apart g) (same_times (together g) t) h)))

    asked-legal : (canonical n b && ever (times_in n b)) ≡ true
    asked-legal = and_both (canonical n b) (ever (times_in n b)) (and_left (canonical n b) (untimed k) asked-timed) (ever-of n d b k r asked-apart)

    asked-accepted : parsed b ≡ refused → true ≡ false
    asked-accepted e = sym asked-legal ∙ legal-is b refused e

    asked-tests : {u : ℕ → Bool} {m : ℕ} → Seen n d u m → (s : ℕ → Bool) → parsed b ≡ accepted s → (follows n u m s && untimed k && not (repeats k d)) ≡ true
    unfolding follows
    asked-tests {u} {m} x s e =
        let g : subset s (up_to n) ≡ true = sym (legal-is b (accepted s) e) ∙ asked-legal in
        let o = only_set b s e g in
        let f = seen-fresh small x s k o (first_some n s o) (rw (legal-set n b small s e) at (fresh-of n d b k r asked-apart)) in
        and_both (subset s (up_to n) && apart s u && ltb m (first_in 1024 s 0) && untimed k) (not (repeats k d))
        (and_both (subset s (up_to n) && apart s u && ltb m (first_in 1024 s 0)) (untimed k)
        (and_both (subset s (up_to n) && apart s u) (ltb m (first_in 1024 s 0)) (and_both (subset s (up_to n)) (apart s u) g f.0) (lt-ltb m (first_in 1024 s 0) f.1))
        (and_right (canonical n b) (untimed k) asked-timed))
        (ap not f.2)

  -- the tests make one content more
  module _ (d : Forest) (u : ℕ → Bool) (m : ℕ) (b : Bytes) (k : Forest) (s : ℕ → Bool) (e : parsed b ≡ accepted s)
      (h : (follows n u m s && untimed k && not (repeats k d)) ≡ true) where
    tested : (subset s (up_to n) && apart s u && ltb m (first_in 1024 s 0)) ≡ true
    unfolding follows
    tested = and_left (follows n u m s) (untimed k) (and_left (follows n u m s && untimed k) (not (repeats k d)) h)

    tested-in : subset s (up_to n) ≡ true
    tested-in = and_left (subset s (up_to n)) (apart s u) (and_left (subset s (up_to n) && apart s u) (ltb m (first_in 1024 s 0)) tested)

    tested-legal : (canonical n b && ever (times_in n b)) ≡ true
    tested-legal = legal-is b (accepted s) e ∙ tested-in

    tested-timed : (canonical n b && untimed k) ≡ true
    tested-timed = and_both (canonical n b) (untimed k) (and_left (canonical n b) (ever (times_in n b)) tested-legal)
        (and_right (follows n u m s) (untimed k) (and_left (follows n u m s && untimed k) (not (repeats k d)) h))

    tested-branch : Branch n d u m b k s
    tested-branch = record {
      set = legal-set n b small s e;
      only = only_set b s e tested-in;
      some = and_right (canonical n b) (ever (times_in n b)) tested-legal;
      clear = and_right (subset s (up_to n)) (apart s u) (and_left (subset s (up_to n) && apart s u) (ltb m (first_in 1024 s 0)) tested);
      later = ltb-true m (first_in 1024 s 0) (and_right (subset s (up_to n) && apart s u) (ltb m (first_in 1024 s 0)) tested);
      new = not-true (repeats k d) (and_right (follows n u m s && untimed k) (not (repeats k d)) h);
    }

    tested-asked : (t : Times) (r : Forest) → asked n t (join d (stamp b k end)) r ≡ asked n t d (stamp b k r)
    unfolding asked all_timed join
    tested-asked t r = rw (join-assoc d (stamp b k end) r, tested-timed) refl

  module _ (w : ℕ → Bool) (t : Times) (o : Only n w) (is : listed n w ≡ t) where
    judged-end : (d : Forest) (u : ℕ → Bool) (m c : ℕ) → Seen n d u m → c ≡ length (branches_in n d) → (leb 2 c && same_set u w) ≡ asked n t d end
    unfolding asked all_timed
    judged-end d u m c x e =
        rw (join-end d, seen_apart small x, ← e) (by-test (leb 2 c)
        (λ z. let l = leb-true 2 c z in
        let y : same_times (together (branches_in n d)) t ≡ same_set u w = ap₂ same_times (seen-together x (omega arith)) (sym is) ∙ sym (same-listed n u w (seen-only x) o (omega arith)) in
        rw (z, y) refl)
        (λ z. rw z refl))

    -- one content, by what its text is read as
    judged-stamp : (b : Bytes) (k r d : Forest) (u : ℕ → Bool) (m c : ℕ) → Seen n d u m
        → ((s : ℕ → Bool) → Seen n (join d (stamp b k end)) (joined u s) (first_in 1024 s 0)
        → judged n w (joined u s) (first_in 1024 s 0) (c + 1) (join d (stamp b k end)) r ≡ asked n t (join d (stamp b k end)) r)
        → (p : Outcome) → parsed b ≡ p → judged n w u m c d (stamp b k r) ≡ asked n t d (stamp b k r)
    unfolding judged
    judged-stamp b k r d u m c x ih refused q = rw (q, judged) (sym (not_so (asked n t d (stamp b k r)) (λ h. clash (asked-accepted t d b k r h q))))
    judged-stamp b k r d u m c x ih (accepted s) q =
        rw (q, judged) (by-test (follows n u m s && untimed k && not (repeats k d))
        (λ z. rw z (ih s (more x (tested-branch d u m b k s q z) refl refl refl) ∙ tested-asked d u m b k s q z t r))
        (λ z. rw z (sym (not_so (asked n t d (stamp b k r)) (λ h. clash (sym (asked-tests t d b k r h x s q) ∙ z))))))

    pub judged-is : (f d : Forest) (u : ℕ → Bool) (m c : ℕ) → Seen n d u m → c ≡ length (branches_in n d) → judged n w u m c d f ≡ asked n t d f
    unfolding judged asked all_timed
    judged-is end d u m c x e = judged-end d u m c x e
    judged-is (text b r) d u m c x e = refl
    judged-is (elem b k r) d u m c x e = refl
    judged-is (stamp b k r) d u m c x e =
        judged-stamp b k r d u m c x
        (λ s y. judged-is r (join d (stamp b k end)) (joined u s) (first_in 1024 s 0) (c + 1) y (omega (arith, length-snoc n d b k))) (parsed b) refl

-- ---- what a frontier holds
module _ {src cells : List ℕ} (n : ℕ) (t : Times) where
  -- nothing
  pub front-none : {lo hi : ℕ} {f : Forest} → Tape src cells lo hi f → hi ≤ lo → front_legal n t f ≡ true
  unfolding front_legal
  front-none {lo} {hi} x l =
      let e : hi ≡ lo = omega (arith, tape-le x) in
      ap (front_legal n t) (tape-none (rw e at x))

  -- one content
  pub front-bare : {lo hi : ℕ} {f : Forest} → Tape src cells lo hi f → lo < hi → (head_at cells lo % 4 ≡ 2 → ⊥) → front_legal n t f ≡ untimed f
  unfolding front_legal
  front-bare {lo} x l k =
      let g = first x l in
      by-test (eqb (head_at cells lo % 4) 0)
      (λ e. rw (g.run (eqb-true (head_at cells lo % 4) 0 e)) refl)
      (λ e. rw (g.element (omega (arith, eqb-false (head_at cells lo % 4) 0 e, (front x l).kind))) refl)

  -- contents in their `T`s
  pub front-timed : {lo hi : ℕ} {f : Forest} (w : ℕ → Bool) → n ≤ 999 → Only n w → listed n w ≡ t → Tape src cells lo hi f → lo < hi → head_at cells lo % 4 ≡ 2
      → judged n w empty_set 0 0 end f ≡ front_legal n t f
  unfolding front_legal asked join branches_in
  front-timed {lo} w small o is x l k =
      let g = first x l in
      rw (g.timed k) (judged-is n small w t o is (stamp (bytes_at src cells lo) g.kids g.rest) end empty_set 0 0 (nothing refl) refl)
