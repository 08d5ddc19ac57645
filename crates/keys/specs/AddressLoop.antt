-- Laws of the loop over the steps of an address, one a return or turn.
use Rattle.std.specs.Prelude.{Option as Maybe, None, Some, ℕ, zero, suc, ◌+◌, ◌<◌, ◌≤◌, ◌≡◌, refl, List, [], ◌∷◌, ◌++◌, map, eqb, length, drop, get_or, set}
use Rattle.std.proofs.Common.{arith, sym, ◌∙◌, length-append, drop_of_length-le, drop-cons, take_all, get_or-set_same, get_or-set_other, eqb-true}
use Rattle.std.proofs.Math.Path.{ap, subst}
use Rattle.std.proofs.Math.Option.{none, some}
use Rattle.std.proofs.Math.ListN.{get_or-append}
use Rattle.std.proofs.lemmas.List.{take-append-le, get_or_at}
use Rattle.std.proofs.lemmas.Bool.{eqb-false}
use Rattle.xml.specs.Bytes.{Bytes}
use Rattle.xml.specs.Truth.{by-test}
use Rattle.keys.specs.Result.{refused, ok, r12}
use Rattle.keys.specs.KeyList.{Path, KeyList, key_list, key_names_at}
use Rattle.keys.specs.Version.{◌▸◌, Label, name_in}
use Rattle.keys.specs.Address.{address}
use Rattle.keys.specs.Table.{place_of}
use Rattle.keys.specs.PlaceLaws.{place-root}
use Rattle.keys.specs.AddressScan.{step_in, steps_from, steps}
use Rattle.keys.specs.AddressCuts.{none-some}
use Rattle.keys.specs.AddressMeans.{path-next, scan-means}
use Rattle.keys.specs.AddressParts.{piece, label_at, StepIn, StepRead, StepAs, StepIs, AddressParsed}
use Rattle.keys.specs.declared.address.Step.{Step}

-- ---- the machine's turn
steps_next : (k : ℕ) (K : KeyList) (ls : List Label) (t : Bytes) {l : Label} {r : Bytes} → step_in K (map name_in ls) t ≡ some (l, r) → steps_from (suc k) K ls t ≡ steps_from k K (ls ++ l ∷ []) r
unfolding steps_from step_in
steps_next k K ls [] e = none-some e
steps_next k K ls (b ∷ t) e = rw (e, steps_from)

steps-stop : (k : ℕ) (K : KeyList) (ls : List Label) (b : ℕ) (t : Bytes) → step_in K (map name_in ls) (b ∷ t) ≡ none → steps_from k K ls (b ∷ t) ≡ none
unfolding steps_from
steps-stop zero K ls b t e = refl
steps-stop (suc k) K ls b t e = rw (e, steps_from)

steps-full : (k : ℕ) (K : KeyList) (ls : List Label) (b : ℕ) (t : Bytes) → k ≡ 0 → steps_from k K ls (b ∷ t) ≡ none
unfolding steps_from
steps-full zero K ls b t e = refl
steps-full (suc k) K ls b t e = absurd (omega arith)

steps-end : (k : ℕ) (K : KeyList) (ls : List Label) → steps_from k K ls [] ≡ some ls
unfolding steps_from
steps-end zero K ls = refl
steps-end (suc k) K ls = refl

-- ---- what holds where `count` steps are read: the machine's answer from here is the whole one
pub record Parsing (K : KeyList) (s : Bytes) (names places : List ℕ) (values : List (List ℕ)) (count place at : ℕ) : Type 0 where
  pub done : List Label
  pub left : ℕ
  pub left_is : left + count ≡ 8
  pub as_many : length done ≡ count
  pub place_is : place_of K (map name_in done) ≡ place
  pub answer : steps_from 8 K [] s ≡ steps_from left K done (drop at s)
  pub filled : (i : ℕ) → i < count → StepIs K s done names places values i

pub parsing-starts : (K : KeyList) (s : Bytes) (names places : List ℕ) (values : List (List ℕ)) → Parsing K s names places values 0 128 0
parsing-starts K s names places values = record {
  done = [];
  left = 8;
  left_is = refl;
  as_many = refl;
  place_is = place-root K;
  answer = refl;
  filled = λ i h. absurd (omega arith);
}

-- ---- the step that is added
step_same : (K : KeyList) (s : Bytes) {l m : Label} {p q : Path} {a b : ℕ} {c d : ℕ} {v w : List ℕ} → m ≡ l → q ≡ p → b ≡ a → d ≡ c → w ≡ v → StepAs K s l p a c v → StepAs K s m q b d w
step_same K s e f g h i r = rw (e, f, g, h, i) r

added : (K : KeyList) (s : Bytes) (p : Path) (at : ℕ) (r : Step) → StepIn K p s at r
    → StepAs K s (label_at s (length (key_names_at K (p ▸ piece s r.name))) r.name r.values) (p ▸ piece s r.name) r.name r.place r.values
added K s p at r h = record { label_is = refl; place_is = h.place_is; name-inside = h.name-inside; values-inside = h.inside }

module _ (K : KeyList) (s : Bytes) (names places : List ℕ) (values : List (List ℕ)) (count place at : ℕ) (g : Parsing K s names places values count place at) where
  path : Path
  path = map name_in g.done

  pub parsing-more : (r : Step) → length names ≡ 8 → length places ≡ 8 → length values ≡ 8 → count < 8 → {x : Maybe Step} → StepRead K (map name_in g.done) s at x → x ≡ Some r
      → Parsing K s (set names count r.name) (set places count r.place) (set values count r.values) (count + 1) r.place r.next
  unfolding path name_in
  parsing-more r ln lp lv b y z = go g.left g.left_is g.answer
    where
      h : StepIn K (map name_in g.done) s at r
      h = subst (λ (x : Maybe Step). StepRead K (map name_in g.done) s at x) z y

      l : Label
      l = label_at s (length (key_names_at K (path ▸ piece s r.name))) r.name r.values

      ls : List Label
      ls = g.done ++ l ∷ []

      older : (i : ℕ) → i < count → StepIs K s ls (set names count r.name) (set places count r.place) (set values count r.values) i
      older i m =
          let ne : i ≡ count → ⊥ = λ q. omega arith in
          let d : i < length g.done = omega (arith, g.as_many) in
          step_same K s (get_or-append g.done (l ∷ []) [] i d) (ap (map name_in) (take-append-le (suc i) g.done (l ∷ []) (omega arith)))
          (get_or-set_other names count i r.name 0 ne) (get_or-set_other places count i r.place 0 ne) (get_or-set_other values count i r.values [] ne) (g.filled i m)

      newest : (i : ℕ) → i ≡ count → StepIs K s ls (set names count r.name) (set places count r.place) (set values count r.values) i
      newest i m =
          step_same K s (get_or_at g.done l [] [] i (g.as_many ∙ sym m))
          (ap (map name_in) (take_all (suc i) ls (omega (arith, length-append g.done (l ∷ []), g.as_many))) ∙ path-next g.done l)
          (at_count names ln r.name 0 i m) (at_count places lp r.place 0 i m) (at_count values lv r.values [] i m)
          (added K s path at r h)
        where
          at_count : {A : Type 0} (xs : List A) → length xs ≡ 8 → (x d : A) (i : ℕ) → i ≡ count → get_or (set xs count x) i d ≡ x
          at_count xs n x d i m = ap (λ j. get_or (set xs count x) j d) m ∙ get_or-set_same xs count x d (omega arith)

      go : (k : ℕ) → k + count ≡ 8 → steps_from 8 K [] s ≡ steps_from k K g.done (drop at s)
          → Parsing K s (set names count r.name) (set places count r.place) (set values count r.values) (count + 1) r.place r.next
      go zero e a = absurd (omega arith)
      go (suc k) e a = record {
        done = g.done ++ l ∷ [];
        left = k;
        left_is = omega arith;
        as_many = omega (arith, length-append g.done (l ∷ []), g.as_many);
        place_is = ap (place_of K) (path-next g.done l) ∙ sym h.place_is;
        answer = a ∙ steps_next k K g.done (drop at s) h.right;
        filled = λ i m. by-test (eqb i count) (λ t. newest i (eqb-true i count t)) (λ t. older i (let f = eqb-false i count t in omega arith));
      }

  -- ---- the ends
  module _ (text : Bytes) (acc : key_list text ≡ ok K) where
    refusing : steps_from 8 K [] s ≡ none → address K s ≡ refused r12
    unfolding steps
    refusing e = scan-means text K acc s ∙ ap steps e

    pub parsing-full : at < length s → count ≡ 8 → address K s ≡ refused r12
    parsing-full h e =
        refusing (g.answer ∙ ap (steps_from g.left K g.done) (drop-cons s at 0 h) ∙ steps-full g.left K g.done (get_or s at 0) (drop (suc at) s) (omega (arith, g.left_is)))

    pub parsing-wrong : at < length s → {x : Maybe Step} → StepRead K (map name_in g.done) s at x → x ≡ None → address K s ≡ refused r12
    parsing-wrong h x z =
        let d = drop-cons s at 0 h in
        refusing (g.answer ∙ ap (steps_from g.left K g.done) d ∙ steps-stop g.left K g.done (get_or s at 0) (drop (suc at) s) (ap (step_in K (map name_in g.done)) (sym d) ∙ subst (λ (y : Maybe Step). StepRead K (map name_in g.done) s at y) z x))

    -- at the end of the text
    ended : length s ≤ at → address K s ≡ steps (some g.done)
    ended h = scan-means text K acc s ∙ ap steps (g.answer ∙ ap (steps_from g.left K g.done) (drop_of_length-le s h) ∙ steps-end g.left K g.done)

    pub parsing-none : length s ≤ at → count ≡ 0 → address K s ≡ refused r12
    unfolding steps
    parsing-none h z = go g.done g.as_many (ended h)
      where
        go : (ls : List Label) → length ls ≡ count → address K s ≡ steps (some ls) → address K s ≡ refused r12
        go [] e a = a
        go (x ∷ ls) e a = absurd (omega arith)

    pub parsing-done : length s ≤ at → (count ≡ 0 → ⊥) → AddressParsed K s (Some (record { count = count; names = names; places = places })) values
    unfolding steps
    parsing-done h z = go g.done g.as_many g.filled (ended h)
      where
        few : count ≤ 8
        few = omega (arith, g.left_is)

        go : (ls : List Label) → length ls ≡ count → ((i : ℕ) → i < count → StepIs K s ls names places values i) → address K s ≡ steps (some ls)
            → AddressParsed K s (Some (record { count = count; names = names; places = places })) values
        go [] e f a = absurd (z (sym e))
        go (x ∷ ls) e f a = (omega (arith, z), record { few = omega (arith, few); accepted-as = λ y. record { steps = x ∷ ls; accepted = a; counted = e; step = f } })
