-- A line's words: a key of names is what is read from the line that it is written as.
use Rattle.std.specs.Prelude.{ℕ, ◌≡◌, refl, Bool, true, false, ◌&&◌, eqb, leb, length}
use Rattle.std.proofs.Common.{sym, ◌∙◌, subst, eqb-true, leb-true, le-leb}
use Rattle.std.proofs.Math.Path.{ap}
use Rattle.std.proofs.Math.Bool.{not}
use mathlib.Core.List.{List, [], ◌∷◌, ◌++◌, append_assoc, append-nil}
use Rattle.std.proofs.lemmas.Bool.{not-true}
use Rattle.model.specs.Masks.{clash}
use Rattle.xml.specs.Bytes.{Bytes, bytes, any, all, keep, split, same, join_by, distinct, is_empty, among, is_start, is_name_byte, is_name, is_value, bytes_compute}
use Rattle.xml.specs.BytesLaws.{same-is, same_self}
use Rattle.xml.specs.SplitLaws.{Free, free-append, free_all, split-free, split-alone, split-sep}
use Rattle.xml.specs.Truth.{not_so, and_left, and_right, both, both_true, or-both}
use Rattle.keys.specs.KeyList.{Path, Key, write_path, write_context, write_key, words, key_of, in_notation}
use Rattle.keys.specs.Notation.{Noted, spell}

-- ---- bytes of names are no separators
off-all : (b : ℕ) (l : List ℕ) → is_name_byte b ≡ true → all (λ x. not (is_name_byte x)) l ≡ true → any (eqb b) l ≡ false
unfolding any all
off-all b [] e h = refl
off-all b (x ∷ l) e h =
    or-both (eqb b x) (any (eqb b) l)
    (not_so (eqb b x) (λ f. clash (ap is_name_byte (sym (eqb-true b x f)) ∙ e) (not-true (is_name_byte x) (and_left (not (is_name_byte x)) _ h))))
    (off-all b l e (and_right (not (is_name_byte x)) _ h))

no-separator : (b : ℕ) → is_name_byte b ≡ true → among "(){}, " b ≡ false
unfolding bytes_compute
no-separator b e = off-all b (bytes "(){}, ") e refl

off-one : (x b : ℕ) → is_name_byte x ≡ false → is_name_byte b ≡ true → eqb x b ≡ false
off-one x b h e = not_so (eqb x b) (λ f. clash e (ap is_name_byte (sym (eqb-true x b f)) ∙ h))

no_slash : (b : ℕ) → is_name_byte b ≡ true → eqb 47 b ≡ false
unfolding bytes_compute
no_slash b e = off-one 47 b refl e

no-feed : (b : ℕ) → is_name_byte b ≡ true → eqb 10 b ≡ false
unfolding bytes_compute
no-feed b e = off-one 10 b refl e

pub name-bytes : (n : Bytes) → is_name n ≡ true → all is_name_byte n ≡ true
unfolding is_name is_value all
name-bytes [] e = absurd (clash e refl)
name-bytes (b ∷ s) e = and_right (leb 1 (length (b ∷ s)) && leb (length (b ∷ s)) 32) (all is_name_byte (b ∷ s)) (and_right (is_start b) (is_value (b ∷ s)) e)

name-filled : (n : Bytes) → is_name n ≡ true → is_empty n ≡ false
unfolding is_name is_empty
name-filled [] e = absurd (clash e refl)
name-filled (b ∷ s) e = refl

module _ (f : ℕ → Bool) (h : (b : ℕ) → is_name_byte b ≡ true → f b ≡ false) where
  name_free : (n : Bytes) → is_name n ≡ true → Free f n
  name_free n e = free_all is_name_byte f h n (name-bytes n e)

  -- ---- the words between separators
  abbrev words_of : Bytes → List Bytes
  words_of s = keep (λ w. not (is_empty w)) (split f s)

  skip : (c : ℕ) (s : Bytes) → f c ≡ true → words_of (c ∷ s) ≡ words_of s
  unfolding keep is_empty
  skip c s e = ap (keep (λ w. not (is_empty w))) (split-sep f c s e)

  word : (w : Bytes) (c : ℕ) (s : Bytes) → Free f w → is_empty w ≡ false → f c ≡ true → words_of (w ++ c ∷ s) ≡ w ∷ words_of s
  unfolding keep
  word w c s g n e = ap (keep (λ w. not (is_empty w))) (split-free f w (c ∷ s) [] (split f s) g (split-sep f c s e) ∙ ap (λ z. z ∷ split f s) (append-nil w)) ∙ rw (n, keep)

  last_word : (w : Bytes) → Free f w → is_empty w ≡ false → words_of w ≡ w ∷ []
  unfolding keep
  last_word w g n = ap (keep (λ w. not (is_empty w))) (split-alone f w g) ∙ rw (n, keep)

-- ---- contexts
path-free : (f : ℕ → Bool) → ((b : ℕ) → is_name_byte b ≡ true → f b ≡ false) → f 47 ≡ false → (p : Path) → all is_name p ≡ true → Free f (write_path p)
unfolding write_path all bytes
path-free f h s [] e = tt
path-free f h s (n ∷ p) e = (s, free-append f n (write_path p) (name_free f h n (and_left (is_name n) _ e)) (path-free f h s p (and_right (is_name n) _ e)))

context-free : (f : ℕ → Bool) → ((b : ℕ) → is_name_byte b ≡ true → f b ≡ false) → f 47 ≡ false → (p : Path) → all is_name p ≡ true → Free f (write_context p)
unfolding write_context bytes
context-free f h s [] e = (s, tt)
context-free f h s (n ∷ p) e = path-free f h s (n ∷ p) e

context-filled : (p : Path) → is_empty (write_context p) ≡ false
unfolding write_context write_path bytes is_empty
context-filled [] = refl
context-filled (n ∷ p) = refl

-- the names of a written path
path-words : (p : Path) → all is_name p ≡ true → words_of (eqb 47) no_slash (write_path p) ≡ p
unfolding write_path all bytes keep split is_empty
path-words [] e = refl
path-words (n ∷ p) e = skip (eqb 47) no_slash 47 (n ++ write_path p) refl ∙ go p (path-words p (and_right (is_name n) _ e)) (and_left (is_name n) _ e)
  where
    go : (q : Path) → words_of (eqb 47) no_slash (write_path q) ≡ q → is_name n ≡ true → words_of (eqb 47) no_slash (n ++ write_path q) ≡ n ∷ q
    go [] ih h = rw (append-nil n) (last_word (eqb 47) no_slash n (name_free (eqb 47) no_slash n h) (name-filled n h))
    go (m ∷ q) ih h =
        word (eqb 47) no_slash n 47 (m ++ write_path q) (name_free (eqb 47) no_slash n h) (name-filled n h) refl
        ∙ ap (λ z. n ∷ z) (sym (skip (eqb 47) no_slash 47 (m ++ write_path q) refl) ∙ ih)

-- one more name
pub path-next : (p : Path) (n : Bytes) → write_path (p ++ n ∷ []) ≡ write_path p ++ 47 ∷ n
unfolding write_path bytes
path-next [] n = ap (λ (z : Bytes). 47 ∷ z) (append-nil n)
path-next (m ∷ p) n = ap (λ (z : Bytes). 47 ∷ (m ++ z)) (path-next p n) ∙ ap (λ (z : Bytes). 47 ∷ z) (sym (append_assoc m (write_path p) (47 ∷ n)))

context-words : (p : Path) → all is_name p ≡ true → keep (λ w. not (is_empty w)) (split (eqb 47) (write_context p)) ≡ p
unfolding write_context bytes keep split is_empty
context-words [] e = refl
context-words (n ∷ p) e = path-words (n ∷ p) e

-- ---- key names, then a separator
names-words : (ks : List Bytes) (s : Bytes) → all is_name ks ≡ true → words_of (among "(){}, ") no-separator (join_by (bytes ", ") ks ++ 125 ∷ s) ≡ ks ++ words_of (among "(){}, ") no-separator s
unfolding join_by all bytes_compute
names-words [] s e = skip (among "(){}, ") no-separator 125 s refl
names-words (n ∷ []) s e = word (among "(){}, ") no-separator n 125 s (name_free (among "(){}, ") no-separator n (and_left (is_name n) true e)) (name-filled n (and_left (is_name n) true e)) refl
names-words (n ∷ m ∷ ks) s e =
    let h = and_left (is_name n) (all is_name (m ∷ ks)) e in
    rw (append_assoc (n ++ bytes ", ") (join_by (bytes ", ") (m ∷ ks)) (125 ∷ s), append_assoc n (bytes ", ") (join_by (bytes ", ") (m ∷ ks) ++ 125 ∷ s))
    (word (among "(){}, ") no-separator n 44 (32 ∷ (join_by (bytes ", ") (m ∷ ks) ++ 125 ∷ s)) (name_free (among "(){}, ") no-separator n h) (name-filled n h) refl
    ∙ ap (λ z. n ∷ z) (skip (among "(){}, ") no-separator 32 (join_by (bytes ", ") (m ∷ ks) ++ 125 ∷ s) refl ∙ names-words (m ∷ ks) s (and_right (is_name n) _ e)))

-- ---- lines
pub spelt : (k : Key) (s : Bytes) → write_key k ++ s ≡ spell k s
unfolding write_key bytes
spelt k s = simp append_assoc

line-words : (k : Key) → Noted k → words (write_key k) ≡ write_context k.context ∷ k.name ∷ k.key_names
unfolding words bytes_compute
line-words k d =
    let f = among "(){}, " in
    let c = write_context k.context in
    let j = join_by (bytes ", ") k.key_names in
    let n = k.name in
    ap (words_of f no-separator) (sym (append-nil (write_key k)) ∙ spelt k [])
    ∙ skip f no-separator 40 (c ++ 44 ∷ 32 ∷ 40 ∷ (n ++ 44 ∷ 32 ∷ 123 ∷ (j ++ 125 ∷ 41 ∷ 41 ∷ []))) refl
    ∙ word f no-separator c 44 (32 ∷ 40 ∷ (n ++ 44 ∷ 32 ∷ 123 ∷ (j ++ 125 ∷ 41 ∷ 41 ∷ []))) (context-free f no-separator refl k.context d.context-names) (context-filled k.context) refl
    ∙ ap (λ z. c ∷ z) (skip f no-separator 32 (40 ∷ (n ++ 44 ∷ 32 ∷ 123 ∷ (j ++ 125 ∷ 41 ∷ 41 ∷ []))) refl ∙ skip f no-separator 40 (n ++ 44 ∷ 32 ∷ 123 ∷ (j ++ 125 ∷ 41 ∷ 41 ∷ [])) refl
    ∙ word f no-separator n 44 (32 ∷ 123 ∷ (j ++ 125 ∷ 41 ∷ 41 ∷ [])) (name_free f no-separator n d.name-named) (name-filled n d.name-named) refl
    ∙ ap (λ z. n ∷ z) (skip f no-separator 32 (123 ∷ (j ++ 125 ∷ 41 ∷ 41 ∷ [])) refl ∙ skip f no-separator 123 (j ++ 125 ∷ 41 ∷ 41 ∷ []) refl
    ∙ names-words k.key_names (41 ∷ 41 ∷ []) d.key-named ∙ append-nil k.key_names))

-- the key of a line is the one that it is written from
pub key_back : (k : Key) → Noted k → key_of (words (write_key k)) ≡ k
unfolding key_of
key_back k d = ap key_of (line-words k d) ∙ ap (λ (p : Path). record { context = p; name = k.name; key_names = k.key_names }) (context-words k.context d.context-names)

-- ---- the test of a line
pub all_append : (p q : List Bytes) → all is_name (p ++ q) ≡ (all is_name p && all is_name q)
unfolding all
all_append [] q = refl
all_append (n ∷ p) q = go (is_name n) (all_append p q)
  where
    go : (b : Bool) → all is_name (p ++ q) ≡ (all is_name p && all is_name q) → (b && all is_name (p ++ q)) ≡ ((b && all is_name p) && all is_name q)
    go true ih = ih
    go false ih = refl

pub noted : (k : Key) → Noted k → in_notation (write_key k) k ≡ true
unfolding in_notation all
noted k d =
    both (both (both (same_self (write_key k))
    (all_append k.context (k.name ∷ k.key_names) ∙ both d.context-names (both d.name-named d.key-named)))
    (le-leb (length k.key_names) 4 d.few-keys)) d.keys-once

pub noted-inv : (l : Bytes) (k : Key) → in_notation l k ≡ true → (l ≡ write_key k) × Noted k
unfolding in_notation all
noted-inv l k e =
    let a = both_true (same l (write_key k) && all is_name (k.context ++ k.name ∷ k.key_names) && leb (length k.key_names) 4) (distinct same k.key_names) e in
    let b = both_true (same l (write_key k) && all is_name (k.context ++ k.name ∷ k.key_names)) (leb (length k.key_names) 4) a.0 in
    let c = both_true (same l (write_key k)) (all is_name (k.context ++ k.name ∷ k.key_names)) b.0 in
    let f = both_true (all is_name k.context) (all is_name (k.name ∷ k.key_names)) (sym (all_append k.context (k.name ∷ k.key_names)) ∙ c.1) in
    let g = both_true (is_name k.name) (all is_name k.key_names) f.1 in (
      same-is l (write_key k) c.0,
      record { context-names = f.0; name-named = g.0; key-named = g.1; few-keys = leb-true (length k.key_names) 4 b.1; keys-once = a.1 },
    )

-- ---- a line has no LF
names-free : (f : ℕ → Bool) → ((b : ℕ) → is_name_byte b ≡ true → f b ≡ false) → f 44 ≡ false → f 32 ≡ false → (ks : List Bytes) → all is_name ks ≡ true → Free f (join_by (bytes ", ") ks)
unfolding join_by all bytes
names-free f h c b [] e = tt
names-free f h c b (n ∷ []) e = name_free f h n (and_left (is_name n) true e)
names-free f h c b (n ∷ m ∷ ks) e =
    free-append f (n ++ bytes ", ") (join_by (bytes ", ") (m ∷ ks)) (free-append f n (bytes ", ") (name_free f h n (and_left (is_name n) _ e)) (c, (b, tt)))
    (names-free f h c b (m ∷ ks) (and_right (is_name n) _ e))

pub line-free : (k : Key) → Noted k → Free (eqb 10) (write_key k)
line-free k d =
    let f = eqb 10 in
    let j = join_by (bytes ", ") k.key_names in
    let end = j ++ 125 ∷ 41 ∷ 41 ∷ [] in
    let a : Free f end = free-append f j (125 ∷ 41 ∷ 41 ∷ []) (names-free f no-feed refl refl k.key_names d.key-named) (refl, (refl, (refl, tt))) in
    let b : Free f (k.name ++ 44 ∷ 32 ∷ 123 ∷ end) = free-append f k.name (44 ∷ 32 ∷ 123 ∷ end) (name_free f no-feed k.name d.name-named) (refl, (refl, (refl, a))) in
    let c = free-append f (write_context k.context) (44 ∷ 32 ∷ 40 ∷ (k.name ++ 44 ∷ 32 ∷ 123 ∷ end)) (context-free f no-feed refl k.context d.context-names) (refl, (refl, (refl, b))) in
    subst (λ (z : Bytes). Free (eqb 10) z) (sym (spelt k []) ∙ append-nil (write_key k)) (refl, c)
