-- What a merge keeps (T2, T4): the earlier versions, the new one, the earlier archives.
use Rattle.std.specs.Prelude.{ℕ, ◌<◌, ◌≤◌, ◌≡◌, length}
use Rattle.std.proofs.Math.Path.{refl}
use Rattle.std.proofs.Math.Option.{Option, none, some}
use Rattle.std.proofs.lemmas.List.{length-replicate}
use Rattle.model.specs.Keyed.{Order, Tree, nil, node, Past, any, mask, ◌▷◌, blank, at, trim, sift, version, cut, merge, WF, WFBy}
use Rattle.model.specs.Merged.{Merge, done, old, new, both, merged}
use Rattle.model.specs.Masks.{get-before, get-last, is_true}
use Rattle.model.specs.Pasts.{at-blank, trim-before, trim-blank, trim-all}

module _ {L C : Type 0} (ord : Order L) (n : ℕ) where
  -- a reading that does not see the new version
  sift-old : {Y : Type 0} (f : Past C → Option Y) → ((h : Past C) (o : Option C) → length h ≡ n → f (h ▷ o) ≡ f h) → f (blank n) ≡ none
      → {a m : Tree L (Past C)} {v : Tree L C} → Merge ord n a v m → WF ord n a → sift f m ≡ sift f a
  unfolding sift WFBy
  sift-old f same void done w = refl
  sift-old f same void (old {h = h} b p q) w = rw (same h none w.0, sift-old f same void p w.4, sift-old f same void q w.5)
  sift-old f same void (new {c = c} b p q) w = rw (same (blank n) (some c) (length-replicate n none), void) (sift-old f same void q w)
  sift-old f same void (both {h = h} {c = c} p q) w = rw (same h (some c) w.0, sift-old f same void p w.4, sift-old f same void q w.5)

  -- a reading that sees the new version alone
  sift-new : (f : Past C → Option C) → ((h : Past C) (o : Option C) → length h ≡ n → f (h ▷ o) ≡ o)
      → {a m : Tree L (Past C)} {v : Tree L C} → Merge ord n a v m → WF ord n a → sift f m ≡ v
  unfolding sift WFBy
  sift-new f is done w = refl
  sift-new f is (old {h = h} b p q) w = rw (is h none w.0) (sift-new f is q w.5)
  sift-new f is (new {c = c} b p q) w = rw (is (blank n) (some c) (length-replicate n none), sift-new f is p tt, sift-new f is q w)
  sift-new f is (both {h = h} {c = c} p q) w = rw (is h (some c) w.0, sift-new f is p w.4, sift-new f is q w.5)

  module _ (a : Tree L (Past C)) (v : Tree L C) (w : WF ord n a) where
    pub version-old : (i : ℕ) → i < n → version i (merge ord n a v) ≡ version i a
    version-old i b = sift-old (at i) (λ h o e. get-before b h o none e) (at-blank b) (merged ord n a v) w

    pub version-new : version n (merge ord n a v) ≡ v
    version-new = sift-new (at n) (λ h o e. get-last h o none e) (merged ord n a v) w

    pub cut-old : (i : ℕ) → i ≤ n → cut i (merge ord n a v) ≡ cut i a
    cut-old i b = sift-old (trim i) (trim-before b) (trim-blank n i) (merged ord n a v) w

  pub cut_all : (a : Tree L (Past C)) → WF ord n a → cut n a ≡ a
  unfolding sift WFBy
  cut_all nil w = refl
  cut_all (node l h k r) w = rw (trim-all h w.0, is_true (any (mask h)) w.1, cut_all k w.4, cut_all r w.5)
