-- A run of text that stops at a wrong byte, or that is cut where it ends, can be completed and ended by a `<`.
use Rattle.std.specs.Prelude.{◌≡◌, refl, Bool, true, false, ◌&&◌, [], ◌∷◌, ◌++◌, ◌⊎◌, ℕ, zero, suc, ◌+◌, ◌-◌, ◌≤◌, max, eqb, leb, length, take, drop, Result, Ok, Err, Option, Some, None}
use Rattle.std.proofs.Common.{ap, sym, ◌∙◌, subst, append_assoc, inl, inr, ⊎_elim, add-zero, le_of_suc-le-suc, arith, ne_eqb, eqb-true, leb-true, leb-false, length-append, take-append-drop}
use Prim.Native.Char.{code}
use Rattle.std.proofs.lemmas.Bool.{eqb-false}
use Rattle.std.proofs.Math.Seq.{drop-append_seam}
use Rattle.xml.specs.Bytes.{Bytes, bytes, is_legal}
use Rattle.xml.specs.Read.{common, try, entity_at, text_byte, scan}
use Rattle.xml.specs.ScanLaws.{common-cons, common-off, try-hit, try-miss}
use Rattle.xml.specs.TextLaws.{place, Reach, byte-reach, byte-over, byte-hit, byte-miss, scan-skip, RunIn, scan-range}
use Rattle.xml.specs.Agree.{Agrees, agrees-take, byte-same, Enough, further-miss, found-apart, miss-is, lt-hit, gt-hit, amp-hit, quot-hit, apos-hit, scan-ge, turn}

-- ---- an entity_at that was begun

pub record Word (s : Bytes) (k : ℕ) : Type 0 where
  pub word : Bytes
  pub byte : ℕ
  pub hits : (r : Bytes) → entity_at (word ++ r) ≡ Ok (length word, byte)
  pub agree : common word s ≡ k

live-try : (w : Bytes) (b : ℕ) (s : Bytes) (o : Result (ℕ × ℕ) ℕ) (k : ℕ) → try w b s o ≡ Err k → (common w s ≡ k) ⊎ (o ≡ Err k)
live-try w b s o k e = at (eqb (common w s) (length w)) refl
  where
    at : (t : Bool) → eqb (common w s) (length w) ≡ t → (common w s ≡ k) ⊎ (o ≡ Err k)
    at true q = found-apart (length w) b k (sym (try-hit w b s o (eqb-true (common w s) (length w) q)) ∙ e)
    at false q =
        let x = further-miss (common w s) o k (sym (try-miss w b s o (eqb-false (common w s) (length w) q)) ∙ e) in
        larger x.0 x.1 x.2 (leb x.0 (common w s)) refl
      where
        larger : (j : ℕ) → o ≡ Err j → max (common w s) j ≡ k → (t : Bool) → leb j (common w s) ≡ t → (common w s ≡ k) ⊎ (o ≡ Err k)
        larger j p i true g = let l = leb-true j (common w s) g in inl (omega arith)
        larger j p i false g = let l = leb-false j (common w s) g in let z : j ≡ k = omega arith in inr (p ∙ ap Err z)

last-try : (w : Bytes) (b : ℕ) (s : Bytes) (k : ℕ) → try w b s (Err 0) ≡ Err k → common w s ≡ k
last-try w b s k e = at (eqb (common w s) (length w)) refl
  where
    at : (t : Bool) → eqb (common w s) (length w) ≡ t → common w s ≡ k
    at true q = found-apart (length w) b k (sym (try-hit w b s (Err 0) (eqb-true (common w s) (length w) q)) ∙ e)
    at false q =
        let x = further-miss (common w s) (Err 0) k (sym (try-miss w b s (Err 0) (eqb-false (common w s) (length w) q)) ∙ e) in
        let z : 0 ≡ x.0 = miss-is 0 x.0 x.1 in
        let m : max (common w s) x.0 ≡ k = x.2 in
        omega arith

pub entity-live : (s : Bytes) (k : ℕ) → entity_at s ≡ Err k → Word s k
unfolding bytes entity_at
entity-live s k e =
    ⊎_elim (λ a. record { word = (bytes "lt;"); byte = 60; hits = lt-hit; agree = a })
    (λ e₁. ⊎_elim (λ a. record { word = (bytes "gt;"); byte = 62; hits = gt-hit; agree = a })
    (λ e₂. ⊎_elim (λ a. record { word = (bytes "amp;"); byte = 38; hits = amp-hit; agree = a })
    (λ e₃. ⊎_elim (λ a. record { word = (bytes "quot;"); byte = 34; hits = quot-hit; agree = a })
    (λ e₄. record { word = (bytes "apos;"); byte = 39; hits = apos-hit; agree = last-try (bytes "apos;") (code "'") s k e₄ })
    (live-try (bytes "quot;") (code "\"") s _ k e₃))
    (live-try (bytes "amp;") (code "&") s _ k e₂))
    (live-try (bytes "gt;") (code ">") s _ k e₁))
    (live-try (bytes "lt;") (code "<") s _ k e)

take-common : (w s : Bytes) → take (common w s) s ≡ take (common w s) w
unfolding common
take-common [] s = refl
take-common (w ∷ ws) [] = refl
take-common (w ∷ ws) (b ∷ s) = at (eqb w b) refl (take-common ws s)
  where
    at : (t : Bool) → eqb w b ≡ t → take (common ws s) s ≡ take (common ws s) ws → take (common (w ∷ ws) (b ∷ s)) (b ∷ s) ≡ take (common (w ∷ ws) (b ∷ s)) (w ∷ ws)
    at true e h =
        let c = common-cons w b ws s e in
        ap (λ (n : ℕ). take n (b ∷ s)) c ∙ ap (λ (x : ℕ). x ∷ take (common ws s) s) (sym (eqb-true w b e))
        ∙ ap (λ (l : Bytes). w ∷ l) h ∙ sym (ap (λ (n : ℕ). take n (w ∷ ws)) c)
    at false e h =
        let c = common-off w b ws s e in
        ap (λ (n : ℕ). take n (b ∷ s)) c ∙ sym (ap (λ (n : ℕ). take n (w ∷ ws)) c)

pub completed : (w s : Bytes) → take (common w s) s ++ drop (common w s) w ≡ w
completed w s = ap (λ (x : Bytes). x ++ drop (common w s) w) (take-common w s) ∙ take-append-drop (common w s) w

-- ---- a run of text that was begun

next-apart : {A : Type 0} (k r j : ℕ) → ◌≡◌ {A = Result (Option (ℕ × ℕ)) ℕ} (Ok (Some (k, r))) (Err j) → A
next-apart k r j e = let z : ◌≡◌ {A = ℕ} 0 1 = cc in absurd (omega arith)

run-apart : {A : Type 0} (m p : ℕ) → ◌≡◌ {A = Result ℕ ℕ} (Ok m) (Err p) → A
run-apart m p e = let z : ◌≡◌ {A = ℕ} 0 1 = cc in absurd (omega arith)

upto_is : (m p : ℕ) → ◌≡◌ {A = Result ℕ ℕ} (Ok m) (Ok p) → m ≡ p
upto_is m p e = cc

stop_is : (m p : ℕ) → ◌≡◌ {A = Result ℕ ℕ} (Err m) (Err p) → m ≡ p
stop_is m p e = cc

off-is : (m p : ℕ) → ◌≡◌ {A = Result (Option (ℕ × ℕ)) ℕ} (Err m) (Err p) → m ≡ p
off-is m p e = cc

abbrev pub ZeroOff : Result (Option (ℕ × ℕ)) ℕ → Type 0
ZeroOff (Ok None) = 0 ≤ 0
ZeroOff (Ok (Some (k, r))) = 0 ≤ 0
ZeroOff (Err k) = k ≡ 0

pick_n : (P : Result (Option (ℕ × ℕ)) ℕ → Type 0) (t : Bool) (x y : Result (Option (ℕ × ℕ)) ℕ) → P x → P y → P (elim t [ true ↦ x | false ↦ y ])
pick_n P true x y h g = h
pick_n P false x y h g = g

off_zero : (q b : ℕ) (s : Bytes) → (b ≡ code "&" → ⊥) → ZeroOff (text_byte q b s)
unfolding text_byte
off_zero q b s n = at (eqb b (code "<")) refl
  where
    at : (x : Bool) → eqb b (code "<") ≡ x → ZeroOff (text_byte q b s)
    at true x = subst ZeroOff (sym (byte-over q b s (eqb-true b (code "<") x))) (omega arith)
    at false x =
        rw (ne_eqb b (code "<") (eqb-false b (code "<") x), ne_eqb b (code "&") n, text_byte)
        (pick_n ZeroOff (eqb b (code "]")) _ _ (omega arith)
        (pick_n ZeroOff (eqb b (code ">") && leb 2 q) _ _ (omega arith) (pick_n ZeroOff (is_legal b) _ _ (omega arith) (omega arith))))

over-is : (q n : ℕ) (t : Bytes) → scan q 0 n (code "<" ∷ t) ≡ Ok n
unfolding scan text_byte
over-is q n t = refl

-- what completes a run that stops at p
pub record Rest (q k n p : ℕ) (s : Bytes) : Type 0 where
  pub add : Bytes
  pub ends : (t : Bytes) → scan q k n ((take (p - n) s ++ add) ++ (code "<" ∷ t)) ≡ Ok (n + length (take (p - n) s ++ add))

pub scan-live : (s : Bytes) (q k n p : ℕ) → k ≤ length s → scan q k n s ≡ Err p → Rest q k n p s
unfolding scan
scan-live [] q k n p l e = run-apart n p e
scan-live (b ∷ s) q (suc k) n p l e =
    let r = scan-live s q k (n + 1) p (le_of_suc-le-suc l) e in
    let g : n + 1 + k ≤ p = subst (λ (x : Result ℕ ℕ). n + 1 + k ≤ place x) e (scan-ge q k (n + 1) s (le_of_suc-le-suc l)) in
    let i : p - n ≡ suc (p - (n + 1)) = omega arith in
    let v = take (p - (n + 1)) s ++ r.add in
    let j : n + 1 + length v ≡ n + suc (length v) = omega arith in
    record {
      add = r.add;
      ends = λ t. subst (λ (m : ℕ). scan q (suc k) n ((take m (b ∷ s) ++ r.add) ++ (code "<" ∷ t)) ≡ Ok (n + length (take m (b ∷ s) ++ r.add))) (sym i)
          (r.ends t ∙ ap Ok j);
    }
scan-live (b ∷ s) q zero n p l e = at (text_byte q b s) refl e (λ k r g f. scan-live s r k (n + 1) p g f)
  where
    at : (o : Result (Option (ℕ × ℕ)) ℕ) → text_byte q b s ≡ o → turn n s o ≡ Err p → ((k r : ℕ) → k ≤ length s → scan r k (n + 1) s ≡ Err p → Rest r k (n + 1) p s) → Rest q 0 n p (b ∷ s)
    at (Ok None) u f h = run-apart n p f
    at (Ok (Some (k, r))) u f h =
        let d = subst (Reach q (length s)) u (byte-reach q b s) in
        let x = h k r d.0 f in
        let g : n + 1 + k ≤ p = subst (λ (y : Result ℕ ℕ). n + 1 + k ≤ place y) f (scan-ge r k (n + 1) s d.0) in
        let top : p ≤ n + 1 + length s = subst (λ (y : Result ℕ ℕ). RunIn (n + 1) (n + 1 + length s) y) f (scan-range r k (n + 1) s d.0) in
        let m : ℕ = p - (n + 1) in
        let i : p - n ≡ suc m = omega arith in
        let v = take m s ++ x.add in
        let j : n + 1 + length v ≡ n + suc (length v) = omega arith in
        let c : (t : Bytes) → text_byte q b (v ++ (code "<" ∷ t)) ≡ Ok (Some (k, r)) =
        λ t. byte-same q b m s (v ++ (code "<" ∷ t))
        (subst (λ (y : Bytes). Agrees m s y) (sym (append_assoc (take m s) x.add (code "<" ∷ t))) (agrees-take m s (x.add ++ (code "<" ∷ t)) (omega arith)))
        (subst (Enough m) (sym u) (omega arith)) ∙ u
        in
        record {
          add = x.add;
          ends = λ t. subst (λ (m : ℕ). scan q 0 n ((take m (b ∷ s) ++ x.add) ++ (code "<" ∷ t)) ≡ Ok (n + length (take m (b ∷ s) ++ x.add))) (sym i)
              (ap (turn n (v ++ (code "<" ∷ t))) (c t) ∙ x.ends t ∙ ap Ok j);
        }
    at (Err k) u f h = off (eqb b (code "&")) refl (entity_at s) refl
      where
        at_p : n + k ≡ p
        at_p = stop_is (n + k) p f

        off : (y : Bool) → eqb b (code "&") ≡ y → (o : Result (ℕ × ℕ) ℕ) → entity_at s ≡ o → Rest q 0 n p (b ∷ s)
        off false y o w =
            let z : k ≡ 0 = subst ZeroOff u (off_zero q b s (eqb-false b (code "&") y)) in
            let i : p - n ≡ 0 = omega (arith, at_p) in
            record {
              add = [];
              ends = λ t. subst (λ (m : ℕ). scan q 0 n ((take m (b ∷ s) ++ []) ++ (code "<" ∷ t)) ≡ Ok (n + length (take m (b ∷ s) ++ []))) (sym i)
                  (over-is q n t ∙ ap Ok (sym (add-zero n)));
            }
        off true y (Ok (j, c)) w = next-apart j 0 k (sym (byte-hit q b s j c (not-lt (eqb-true b (code "&") y)) (eqb-true b (code "&") y) w) ∙ u)
          where
            not-lt : b ≡ code "&" → b ≡ code "<" → ⊥
            not-lt x z = eqb-false (code "&") (code "<") refl (sym x ∙ z)
        off true y (Err j) w =
            let x = eqb-true b (code "&") y in
            let not-lt : b ≡ code "<" → ⊥ = λ z. eqb-false (code "&") (code "<") refl (sym x ∙ z) in
            let kj : 1 + j ≡ k = off-is (1 + j) k (sym (byte-miss q b s j not-lt x w) ∙ u) in
            let d = entity-live s j w in
            let wd = d.word in
            let i : p - n ≡ suc (common wd s) = omega (arith, d.agree, at_p) in
            let v : take (common wd s) s ++ drop (common wd s) wd ≡ wd = completed wd s in
            let L : n + 1 + length wd ≡ n + suc (length wd) = omega arith in
            record {
              add = drop (common wd s) wd;
              ends = λ t.
                  subst (λ (m : ℕ). scan q 0 n ((take m (b ∷ s) ++ drop (common wd s) wd) ++ (code "<" ∷ t)) ≡ Ok (n + length (take m (b ∷ s) ++ drop (common wd s) wd))) (sym i)
                  (subst (λ (y : Bytes). scan q 0 n (b ∷ (y ++ (code "<" ∷ t))) ≡ Ok (n + suc (length y))) (sym v)
                  (ap (turn n (wd ++ (code "<" ∷ t))) (byte-hit q b (wd ++ (code "<" ∷ t)) (length wd) d.byte not-lt x (d.hits (code "<" ∷ t)))
                  ∙ scan-skip 0 (length wd) (n + 1) (wd ++ (code "<" ∷ t)) (omega (arith, length-append wd (code "<" ∷ t)))
                  ∙ ap (λ (z : Bytes). scan 0 0 (n + 1 + length wd) z) (drop-append_seam wd (code "<" ∷ t))
                  ∙ over-is 0 (n + 1 + length wd) t ∙ ap Ok L));
            }

-- a run that ends at p ends there too where the text is cut and a `<` is put
pub scan-cut : (s : Bytes) (q k n p : ℕ) → k ≤ length s → scan q k n s ≡ Ok p → (t : Bytes) → scan q k n (take (p - n) s ++ (code "<" ∷ t)) ≡ Ok p
unfolding scan
scan-cut [] q k n p l e t =
    let x : n ≡ p = upto_is n p e in
    let z : k ≡ 0 = omega arith in
    let i : p - n ≡ 0 = omega arith in
    subst (λ (m : ℕ). scan q m n (take (p - n) [] ++ (code "<" ∷ t)) ≡ Ok p) (sym z)
    (subst (λ (m : ℕ). scan q 0 n (take m [] ++ (code "<" ∷ t)) ≡ Ok p) (sym i) (over-is q n t ∙ e))
scan-cut (b ∷ s) q (suc k) n p l e t =
    let g : n + 1 + k ≤ p = subst (λ (x : Result ℕ ℕ). n + 1 + k ≤ place x) e (scan-ge q k (n + 1) s (le_of_suc-le-suc l)) in
    let i : p - n ≡ suc (p - (n + 1)) = omega arith in
    subst (λ (m : ℕ). scan q (suc k) n (take m (b ∷ s) ++ (code "<" ∷ t)) ≡ Ok p) (sym i) (scan-cut s q k (n + 1) p (le_of_suc-le-suc l) e t)
scan-cut (b ∷ s) q zero n p l e t = at (text_byte q b s) refl e (λ k r g f. scan-cut s r k (n + 1) p g f t)
  where
    at : (o : Result (Option (ℕ × ℕ)) ℕ) → text_byte q b s ≡ o → turn n s o ≡ Ok p →
        ((k r : ℕ) → k ≤ length s → scan r k (n + 1) s ≡ Ok p → scan r k (n + 1) (take (p - (n + 1)) s ++ (code "<" ∷ t)) ≡ Ok p) →
        scan q 0 n (take (p - n) (b ∷ s) ++ (code "<" ∷ t)) ≡ Ok p
    at (Ok None) u f h =
        let x : n ≡ p = upto_is n p f in
        let i : p - n ≡ 0 = omega arith in
        subst (λ (m : ℕ). scan q 0 n (take m (b ∷ s) ++ (code "<" ∷ t)) ≡ Ok p) (sym i) (over-is q n t ∙ f)
    at (Ok (Some (k, r))) u f h =
        let d = subst (Reach q (length s)) u (byte-reach q b s) in
        let g : n + 1 + k ≤ p = subst (λ (y : Result ℕ ℕ). n + 1 + k ≤ place y) f (scan-ge r k (n + 1) s d.0) in
        let top = subst (λ (y : Result ℕ ℕ). RunIn (n + 1) (n + 1 + length s) y) f (scan-range r k (n + 1) s d.0) in
        let m : ℕ = p - (n + 1) in
        let i : p - n ≡ suc m = omega arith in
        let c : text_byte q b (take m s ++ (code "<" ∷ t)) ≡ Ok (Some (k, r)) =
        byte-same q b m s (take m s ++ (code "<" ∷ t)) (agrees-take m s (code "<" ∷ t) (omega arith)) (subst (Enough m) (sym u) (omega arith)) ∙ u
        in
        subst (λ (m : ℕ). scan q 0 n (take m (b ∷ s) ++ (code "<" ∷ t)) ≡ Ok p) (sym i)
        (ap (turn n (take m s ++ (code "<" ∷ t))) c ∙ h k r d.0 f)
    at (Err k) u f h = run-apart p (n + k) (sym f)
