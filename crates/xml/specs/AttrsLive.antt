-- A start tag that stops at a wrong byte can be completed there: what stands before that byte begins a name with attributes.
use Prim.Native.Nat.{ℕ, zero, suc, ◌+◌, ◌-◌, ◌≤◌, ◌<◌}
use Prim.Native.Char.{code}
use Rattle.std.proofs.Common.{not-suc-le-zero, le_of_suc-le-suc, ◌∙◌, eqb-true, length-append, take-add}
use native.Mathlib.Omega.{arith}
use Rattle.std.specs.Prelude.{◌≡◌, Bool, true, false, ◌&&◌, ◌||◌, eqb, drop, Result, Ok, Err, Option}
use Rattle.std.proofs.Math.Path.{refl, ap, ap₂, sym, subst}
use mathlib.Core.List.{List, [], ◌∷◌, ◌++◌, append_assoc, append-nil}
use Rattle.std.proofs.lemmas.Bool.{eqb-false}
use Rattle.std.proofs.Math.ListN.{length, take, get_or}
use Rattle.std.proofs.Math.Seq.{take-append_seam, take-suc, drop-append_seam}
use Rattle.xml.specs.Bytes.{Bytes, bytes, all, same, is_character}
use Rattle.xml.specs.Tags.{Attr, attr, tag_text, is_quote, in_value, is_new, fresh, new_len, tags_compute}
use Rattle.xml.specs.Grammar.{Characters, kept, entity, Attributes, none, more, StartTag, attributed, none as no-characters}
use Rattle.xml.specs.Read.{name_len, value_byte, value, attr_byte, attrs, tag_len}
use Rattle.xml.specs.Truth.{by-test, both, both_true, both_false}
use Rattle.xml.specs.TextLaws.{place}
use Rattle.xml.specs.Words.{Signed, signed}
use Rattle.xml.specs.Names.{name-taken}
use Rattle.xml.specs.Fresh.{fresh_len-grows}
use Rattle.xml.specs.Values.{ValueCase, over, hit, miss, plain, off, value-case, value_turn, ValueIn, value-range, value-sound, no_return, found-fits, all_append, entity-in}
use Rattle.xml.specs.Attrs.{more-text, AttrCase, unnamed, unquoted, stops, goes, attr-case, attr-reach, AttrReach, attr_turn, attrs-range, quote-in, named_in, over as no-attr}
use Rattle.xml.specs.TagLaws.{tag-short, tag-long}
use Rattle.xml.specs.LiveText.{Word, entity-live, completed}

run-apart : {A : Type 0} (m p : ℕ) → ◌≡◌ {A = Result ℕ ℕ} (Ok m) (Err p) → A
run-apart m p e = let z : ◌≡◌ {A = ℕ} 0 1 = cc in absurd (omega arith)

stop_is : (m p : ℕ) → ◌≡◌ {A = Result ℕ ℕ} (Err m) (Err p) → m ≡ p
stop_is m p e = cc

-- ---- a value that was begun
record ValueLive (q : ℕ) (w : Bytes) : Type 0 where
  add : Bytes
  meaning : Bytes
  means : Characters (w ++ add) meaning
  within : all (in_value q) (w ++ add) ≡ true

live-none : (q : ℕ) → ValueLive q []
unfolding all
live-none q = record { add = []; meaning = []; means = no-characters; within = refl }

-- the first n + k bytes, of which the first are given
take_more : (b k x n : ℕ) (s : Bytes) → n ≡ suc (k + x) → take n (b ∷ s) ≡ b ∷ (take k s ++ take x (drop k s))
take_more b k x n s e = ap (λ (i : ℕ). take i (b ∷ s)) e ∙ ap (b ∷◌) (take-add k x s)

sign-is : (k c : ℕ) (s : Bytes) (w : Signed k c s) → w.sign ≡ code "&" ∷ take k s
sign-is k c s w = sym (take-append_seam w.sign (drop k s)) ∙ ap (take (length w.sign)) (sym w.is) ∙ ap (λ (i : ℕ). take i (code "&" ∷ s)) w.long

live-entity : (q k c x n b : ℕ) (s : Bytes) → is_quote q ≡ true → b ≡ code "&" → Signed k c s → n ≡ suc (k + x) → ValueLive q (take x (drop k s)) → ValueLive q (take n (b ∷ s))
live-entity q k c x n b s h e w l v =
    let i : (w.sign ++ (take x (drop k s) ++ v.add)) ≡ take n (b ∷ s) ++ v.add =
    sym (append_assoc w.sign (take x (drop k s)) v.add)
    ∙ ap (λ (y : Bytes). (y ++ take x (drop k s)) ++ v.add) (sign-is k c s w ∙ ap (λ (y : ℕ). y ∷ take k s) (sym e))
    ∙ ap (λ (y : Bytes). y ++ v.add) (sym (take_more b k x n s l))
    in
    record {
      add = v.add;
      meaning = c ∷ v.meaning;
      means = subst (λ (y : Bytes). Characters y (c ∷ v.meaning)) i (entity w.entity v.means);
      within = subst (λ (y : Bytes). all (in_value q) y ≡ true) i (all_append (in_value q) w.sign (take x (drop k s) ++ v.add) (entity-in q h w.entity) v.within);
    }

live-word : (q k b : ℕ) (s : Bytes) → is_quote q ≡ true → b ≡ code "&" → Word s k → ValueLive q (b ∷ take k s)
live-word q k b s h e d =
    let w = d.word in
    let g = signed (w ++ []) (length w) d.byte (d.hits []) in
    let i : g.sign ≡ code "&" ∷ w = sym (append-nil g.sign) ∙ ap (g.sign ++◌) (sym (drop-append_seam w [])) ∙ sym g.is ∙ ap (code "&" ∷◌) (append-nil w) in
    let j : take k s ++ drop k w ≡ w = subst (λ (y : ℕ). take y s ++ drop y w ≡ w) d.agree (completed w s) in
    let l : g.sign ++ [] ≡ (b ∷ take k s) ++ drop k w = append-nil g.sign ∙ i ∙ ap₂ (λ (y : ℕ) (z : Bytes). y ∷ z) (sym e) (sym j) in
    record {
      add = drop k w;
      meaning = d.byte ∷ [];
      means = subst (λ (y : Bytes). Characters y (d.byte ∷ [])) l (entity g.entity no-characters);
      within = subst (λ (y : Bytes). all (in_value q) y ≡ true) (sym (append-nil g.sign) ∙ l) (entity-in q h g.entity);
    }

live-kept : (q b n x : ℕ) (s : Bytes) → is_character b && in_value q b ≡ true → n ≡ suc x → ValueLive q (take x s) → ValueLive q (take n (b ∷ s))
unfolding all
live-kept q b n x s e l v =
    let c = both_true (is_character b) (in_value q b) e in
    rw l (record { add = v.add; meaning = b ∷ v.meaning; means = kept c.0 (no_return q b c.1) v.means; within = both c.1 v.within })

value-live : (s : Bytes) (q k n p : ℕ) → is_quote q ≡ true → k ≤ length s → value q k n s ≡ Err p → ValueLive q (take (p - (n + k)) (drop k s))
unfolding value
value-live [] q zero n p h l e =
    let i : n ≡ p = stop_is n p e in
    let j : p - (n + 0) ≡ 0 = omega arith in
    rw j (live-none q)
value-live [] q (suc k) n p h l e = absurd (not-suc-le-zero l)
value-live (b ∷ s) q (suc k) n p h l e =
    let i : n + 1 + k ≡ n + suc k = omega arith in
    subst (λ (x : ℕ). ValueLive q (take (p - x) (drop k s))) i (value-live s q k (n + 1) p h (le_of_suc-le-suc l) e)
value-live (b ∷ s) q zero n p h l e = turn (value_byte q b s) (value-case q b s) (λ k g f. value-live s q k (n + 1) p h g f) e
  where
    turn : (o : Result (Option (ℕ × ℕ)) ℕ) → ValueCase q b s o → ((k : ℕ) → k ≤ length s → value q k (n + 1) s ≡ Err p → ValueLive q (take (p - (n + 1 + k)) (drop k s))) →
        value_turn q n s o ≡ Err p → ValueLive q (take (p - (n + 0)) (b ∷ s))
    turn o (over x) f g = run-apart n p g
    turn o (hit {k = k} {c = c} x y z) f g =
        let i : k ≤ length s = found-fits s (Ok (k, c)) z in
        let r : n + 1 + k ≤ p = subst (λ (v : Result ℕ ℕ). n + 1 + k ≤ place v) g (ge (value q k (n + 1) s) (value-range q k (n + 1) s i)) in
        live-entity q k c (p - (n + 1 + k)) (p - (n + 0)) b s h y (signed s k c z) (omega arith) (f k i g)
      where
        ge : (v : Result ℕ ℕ) → ValueIn (n + 1 + k) (n + 1 + length s) v → n + 1 + k ≤ place v
        ge (Ok m) i = i.0
        ge (Err m) i = i.0
    turn o (miss {k = k} x y z) f g =
        let i : n + (1 + k) ≡ p = stop_is (n + (1 + k)) p g in
        let j : p - (n + 0) ≡ suc k = omega arith in
        rw j (live-word q k b s h y (entity-live s k z))
    turn o (plain x y z) f g =
        let r : n + 1 + 0 ≤ p = subst (λ (v : Result ℕ ℕ). n + 1 + 0 ≤ place v) g (ge (value q 0 (n + 1) s) (value-range q 0 (n + 1) s (omega arith))) in
        live-kept q b (p - (n + 0)) (p - (n + 1 + 0)) s z (omega arith) (f 0 (omega arith) g)
      where
        ge : (v : Result ℕ ℕ) → ValueIn (n + 1 + 0) (n + 1 + length s) v → n + 1 + 0 ≤ place v
        ge (Ok m) i = i.0
        ge (Err m) i = i.0
    turn o (off x y z) f g =
        let i : n + 0 ≡ p = stop_is (n + 0) p g in
        let j : p - (n + 0) ≡ 0 = omega arith in
        rw j (live-none q)

-- ---- attributes that were begun
record AttrsLive (used : List Bytes) (w : Bytes) : Type 0 where
  add : Bytes
  list : List Attr
  spells : Attributes used (w ++ add) list

-- an attribute whose value is in two parts
more-split : (n w x : Bytes) (q : ℕ) → bytes " " ++ n ++ bytes "=" ++ (q ∷ (w ++ x)) ++ (q ∷ []) ≡ code " " ∷ ((n ++ code "=" ∷ q ∷ w) ++ (x ++ q ∷ []))
more-split n w x q =
    sym (append-nil (bytes " " ++ n ++ bytes "=" ++ (q ∷ (w ++ x)) ++ (q ∷ []))) ∙ more-text n (w ++ x) [] [] q
    ∙ ap (λ (y : Bytes). code " " ∷ (n ++ code "=" ∷ q ∷ y)) (append_assoc w x (q ∷ []))
    ∙ ap (code " " ∷◌) (sym (append_assoc n (code "=" ∷ q ∷ w) (x ++ q ∷ [])))

quote-quote : is_quote (code "\"") ≡ true
unfolding tags_compute
quote-quote = refl

module _ (used : List Bytes) (b : ℕ) (s : Bytes) (space : b ≡ code " ") where
  -- a name that was begun
  live-name : (M : ℕ) (t : Bytes) → is_new used (take M s ++ t) ≡ true → AttrsLive used (b ∷ take M s)
  unfolding bytes all
  live-name M t e =
      record {
        add = t ++ (code "=" ∷ code "\"" ∷ code "\"" ∷ []);
        list = attr (take M s ++ t) [] ∷ [];
        spells = subst (λ (y : Bytes). Attributes used y (attr (take M s ++ t) [] ∷ [])) (rw space (simp append_assoc))
            (more (code "\"") e quote-quote no-characters refl none);
      }

  live-equals : (M : ℕ) → is_new used (take M s) ≡ true → get_or s M 0 ≡ code "=" → M < length s → AttrsLive used (b ∷ take (suc M) s)
  unfolding bytes all
  live-equals M e g l =
      let i : take (suc M) s ≡ take M s ++ code "=" ∷ [] = take-suc s M 0 l ∙ ap (λ (y : ℕ). take M s ++ y ∷ []) g in
      record {
        add = code "\"" ∷ code "\"" ∷ [];
        list = attr (take M s) [] ∷ [];
        spells = subst (λ (y : Bytes). Attributes used y (attr (take M s) [] ∷ [])) (rw (space, i) (simp append_assoc))
            (more (code "\"") e quote-quote no-characters refl none);
      }

  module _ (M : ℕ) (new : is_new used (take M s) ≡ true) (equals : get_or s M 0 ≡ code "=") (quote : is_quote (get_or s (1 + M) 0) ≡ true) where
    taken : (k : ℕ) → take (2 + M + k) s ≡ take M s ++ code "=" ∷ get_or s (1 + M) 0 ∷ take k (drop (2 + M) s)
    taken k =
        let l = quote-in s (1 + M) quote in
        let m : 2 + M ≡ suc (suc M) = omega arith in
        let m' : 1 + M ≡ suc M = omega arith in
        take-add (2 + M) k s
        ∙ ap (λ (y : Bytes). y ++ take k (drop (2 + M) s))
        (ap (λ (y : ℕ). take y s) m ∙ take-suc s (suc M) 0 (omega arith) ∙ ap₂ (λ (x : Bytes) (y : ℕ). x ++ y ∷ []) (take-suc s M 0 (omega arith) ∙ ap (λ (y : ℕ). take M s ++ y ∷ []) equals) (ap (λ (y : ℕ). get_or s y 0) (sym m')))
        ∙ simp append_assoc

    live-value : (k : ℕ) → ValueLive (get_or s (1 + M) 0) (take k (drop (2 + M) s)) → AttrsLive used (b ∷ take (2 + M + k) s)
    live-value k v =
        record {
          add = v.add ++ (get_or s (1 + M) 0 ∷ []);
          list = attr (take M s) v.meaning ∷ [];
          spells = subst (λ (y : Bytes). Attributes used y (attr (take M s) v.meaning ∷ [])) (rw (space, taken k) (more-split (take M s) (take k (drop (2 + M) s)) v.add (get_or s (1 + M) 0)))
              (more (get_or s (1 + M) 0) new quote v.means v.within none);
        }

    -- one that is whole, before others
    live-after : (k x n : ℕ) → value (get_or s (1 + M) 0) 0 0 (drop (2 + M) s) ≡ Ok k → n ≡ suc (3 + M + k + x) → AttrsLive (take M s ∷ used) (take x (drop (3 + M + k) s)) →
        AttrsLive used (take n (b ∷ s))
    unfolding bytes
    live-after k x n e l v =
        let r = value-sound (drop (2 + M) s) (get_or s (1 + M) 0) 0 0 k quote (omega arith) e in
        let kl = r.long in
        let c : ℕ = get_or s (1 + M) 0 in
        let j : 3 + M + k ≡ 2 + M + (k + 1) = omega arith in
        let kr : k + 1 ≡ length r.raw + 1 = omega arith in
        let i : take (k + 1) (drop (2 + M) s) ≡ r.raw ++ c ∷ [] =
        ap₂ take kr (r.is ∙ sym (append_assoc r.raw (c ∷ []) r.rest)) ∙ ap (λ (y : ℕ). take y ((r.raw ++ c ∷ []) ++ r.rest)) (sym (length-append r.raw (c ∷ []))) ∙ take-append_seam (r.raw ++ c ∷ []) r.rest
        in
        let h : take (3 + M + k) s ≡ take M s ++ code "=" ∷ c ∷ (r.raw ++ c ∷ []) = ap (λ (y : ℕ). take y s) j ∙ taken (k + 1) ∙ ap (λ (y : Bytes). take M s ++ code "=" ∷ c ∷ y) i in
        let t : take n (b ∷ s) ≡ b ∷ ((take M s ++ code "=" ∷ c ∷ (r.raw ++ c ∷ [])) ++ take x (drop (3 + M + k) s)) =
        take_more b (3 + M + k) x n s l ∙ ap (λ (y : Bytes). b ∷ (y ++ take x (drop (3 + M + k) s))) h
        in
        record {
          add = v.add;
          list = attr (take M s) r.meaning ∷ v.list;
          spells = subst (λ (y : Bytes). Attributes used y (attr (take M s) r.meaning ∷ v.list)) (rw (t, space) (simp append_assoc))
              (more c new quote r.means r.within v.spells);
        }

attrs-live : (s : Bytes) (used : List Bytes) (k n p : ℕ) → k ≤ length s → attrs used k n s ≡ Err p → AttrsLive used (take (p - (n + k)) (drop k s))
unfolding attrs
attrs-live [] used k n p l e = run-apart n p e
attrs-live (b ∷ s) used (suc k) n p l e =
    let i : n + 1 + k ≡ n + suc k = omega arith in
    subst (λ (x : ℕ). AttrsLive used (take (p - x) (drop k s))) i (attrs-live s used k (n + 1) p (le_of_suc-le-suc l) e)
attrs-live (b ∷ s) used zero n p l e =
    turn (attr_byte used b s) (attr-case used b s) (attr-reach used b s) (λ k g f. attrs-live s (take (new_len used s) s ∷ used) k (n + 1) p g f) e
  where
    spaced : eqb b (code " ") && fresh 32 used [] ≡ true → b ≡ code " "
    spaced x = eqb-true b (code " ") (both_true (eqb b (code " ")) (fresh 32 used []) x).0

    turn : (o : Result (Option (ℕ × ℕ)) ℕ) → AttrCase used b s o → AttrReach (length s) o →
        ((k : ℕ) → k ≤ length s → attrs (take (new_len used s) s ∷ used) k (n + 1) s ≡ Err p → AttrsLive (take (new_len used s) s ∷ used) (take (p - (n + 1 + k)) (drop k s))) →
        attr_turn used n s o ≡ Err p → AttrsLive used (take (p - (n + 0)) (b ∷ s))
    turn o (no-attr x) r f g = run-apart n p g
    turn o (unnamed x y) r f g =
        let i = stop_is (n + (1 + new_len used s)) p g in
        let j : p - (n + 0) ≡ suc (new_len used s) = omega arith in
        let w = fresh_len-grows 32 used [] s (both_true (eqb b (code " ")) (fresh 32 used []) x).1 in
        rw j (live-name used b s (spaced x) (new_len used s) w.rest w.new)
    turn o (unquoted x y z) r f g =
        let i = stop_is (n + (2 + new_len used s)) p g in
        let j : p - (n + 0) ≡ suc (suc (new_len used s)) = omega arith in
        let w = both_true (is_new used (take (new_len used s) s)) (eqb (get_or s (new_len used s) 0) (code "=")) y in
        rw j (live-equals used b s (spaced x) (new_len used s) w.0 (eqb-true (get_or s (new_len used s) 0) (code "=") w.1) (named_in used b s y))
    turn o (stops {k = k} x y z v) r f g =
        let M : ℕ = new_len used s in
        let i = stop_is (n + (3 + new_len used s + k)) p g in
        let j : p - (n + 0) ≡ suc (2 + new_len used s + k) = omega arith in
        let w = both_true (is_new used (take (new_len used s) s)) (eqb (get_or s (new_len used s) 0) (code "=")) y in
        let c : k - (0 + 0) ≡ k = omega arith in
        rw j (live-value used b s (spaced x) (new_len used s) w.0 (eqb-true (get_or s (new_len used s) 0) (code "=") w.1) z k
        (subst (λ (h : ℕ). ValueLive (get_or s (1 + new_len used s) 0) (take h (drop (2 + new_len used s) s))) c
        (value-live (drop (2 + new_len used s) s) (get_or s (1 + new_len used s) 0) 0 0 k z (omega arith) v)))
    turn o (goes {k = k} x y z v) r f g =
        let K : ℕ = 3 + new_len used s + k in
        let i = subst (λ (h : Result ℕ ℕ). n + 1 + K ≤ place h) g (attrs-range (take (new_len used s) s ∷ used) K (n + 1) s r).0 in
        let w = both_true (is_new used (take (new_len used s) s)) (eqb (get_or s (new_len used s) 0) (code "=")) y in
        live-after used b s (spaced x) (new_len used s) w.0 (eqb-true (get_or s (new_len used s) 0) (code "=") w.1) z k (p - (n + 1 + K)) (p - (n + 0)) v (omega arith) (f K r g)

-- ---- a tag that was begun
pub record TagLive (a : Bool) (w : Bytes) : Type 0 where
  pub add : Bytes
  pub name : Bytes
  pub tag : Bytes
  pub start : StartTag a (w ++ add) name tag

pub tag_len-live : (a : Bool) (s : Bytes) (k : ℕ) → tag_len a s ≡ Err k → TagLive a (take k s)
tag_len-live a s k e =
    by-test (eqb (name_len s) 0 || a && same (take (name_len s) s) (bytes "T")) (λ x. run-apart (name_len s) k (sym (tag-short a s (name_len s) x) ∙ e))
    (λ x. long x (sym (tag-long a s (name_len s) x) ∙ e))
  where
    long : eqb (name_len s) 0 || a && same (take (name_len s) s) (bytes "T") ≡ false → attrs [] 0 (name_len s) (drop (name_len s) s) ≡ Err k → TagLive a (take k s)
    long x h =
        let n : ℕ = name_len s in
        let y = both_false (eqb (name_len s) 0) (a && same (take (name_len s) s) (bytes "T")) x in
        let v = attrs-live (drop n s) [] 0 n k (omega arith) h in
        let l = subst (λ (r : Result ℕ ℕ). n + 0 ≤ place r) h (attrs-range [] 0 n (drop n s) (omega arith)).0 in
        let j : k ≡ n + (k - (n + 0)) = omega arith in
        let i : take k s ≡ take n s ++ take (k - (n + 0)) (drop n s) = ap (λ (z : ℕ). take z s) j ∙ take-add n (k - (n + 0)) s in
        record {
          add = v.add;
          name = take n s;
          tag = tag_text (take n s) v.list;
          start = subst (λ (z : Bytes). StartTag a z (take n s) (tag_text (take n s) v.list))
              (sym (append_assoc (take n s) (take (k - (n + 0)) (drop n s)) v.add) ∙ ap (λ (z : Bytes). z ++ v.add) (sym i))
              (attributed (name-taken s (eqb-false n 0 y.0)) y.1 v.spells);
        }
