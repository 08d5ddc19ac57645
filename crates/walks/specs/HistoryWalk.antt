-- The walk of a history down the steps of an address: its start in the outer `T`, and the laws of a walk on its way.
use Rattle.std.specs.Prelude.{None, ℕ, ◌+◌, ◌*◌, ◌%◌, ◌<◌, ◌≤◌, ◌≡◌, refl, eqb, leb, length, take, drop, get_or}
use Rattle.std.proofs.Common.{add-one, arith, sym, ◌∙◌, drop_of_length-le, drop-cons}
use Rattle.std.proofs.Math.Path.{ap, subst}
use Rattle.std.proofs.Math.Bool.{true, false}
use mathlib.Core.List.{List, [], ◌∷◌, map}
use Rattle.xml.specs.Bytes.{Bytes, same}
use Rattle.xml.specs.Forest.{Forest, end, stamp, nodes}
use Rattle.xml.specs.Read.{is_end}
use Rattle.xml.specs.Truth.{bool_by, by-test, and_left, both_true}
use Rattle.xml.specs.Tape.{head_at, next_at, end_in, Node, Tape, at-end, at-text, at-elem, at-stamp}
use Rattle.xml.specs.TapeLaws.{bytes_at, tape-one}
use Rattle.model.specs.Masks.{clash}
use Rattle.keys.specs.ResultLaws.{ok-inj}
use Rattle.keys.specs.KeyList.{Path, KeyList, above}
use Rattle.keys.specs.KeyListLaws.{listed_above}
use Rattle.keys.specs.Version.{◌▸◌, Label, name_in}
use Rattle.keys.specs.Address.{steps_known, address}
use Rattle.keys.specs.AddressRead.{known, address-accepted}
use Rattle.keys.specs.AddressParts.{Steps}
use Rattle.keys.specs.SameStep.{path-to, step-below}
use Rattle.keys.specs.declared.address.Parsed.{Parsed}
use Rattle.timestamp.specs.Times.{Times, always, write_times, last_number}
use Rattle.versions.specs.Walk.{siblings_legal, all_small, forest_legal, or_empty, history_in, history_forest}
use Rattle.versions.specs.HistorySteps.{inside, or-none, sole-end}
use Rattle.versions.specs.HistoryTape.{element_at, near_at, Reached, StepAt}
use Rattle.walks.specs.HistoryParts.{StepSought, OfStep, HistoryAsked, OfHistory, AroundIs, short-part}

-- ---- the outer `T`
pub record Top (src cells : List ℕ) (K : KeyList) (count : ℕ) (f : Forest) : Type 0 where
  pub kids : Forest
  pub versions : ℕ
  pub held : 2 * 0 + 1 < length cells
  pub within : end_in (head_at cells 0) ≤ length src
  pub tape : Tape src cells 1 count kids
  pub legal : siblings_legal K versions [] (always versions) kids ≡ true
  pub same : (l : Label) (ls : List Label) → history_forest K (l ∷ ls) f ≡ or_empty (history_in K [] (bytes_at src cells 0) l ls kids)

module _ {src cells : List ℕ} {K : KeyList} {count : ℕ} where
  top-stamp : (s : Bytes) (k : Forest) → Node src cells 0 2 s → Tape src cells 1 (next_at cells 0) k → Tape src cells (next_at cells 0) count end
      → siblings_legal K (last_number s) [] (always (last_number s)) k ≡ true → Top src cells K count (stamp s k end)
  unfolding history_forest history_in
  top-stamp s k d x (at-end e) h =
      record {
        kids = k;
        versions = last_number s;
        held = d.held;
        within = d.within;
        tape = rw e at x;
        legal = h;
        same = λ l ls. ap or_empty (or-none (history_in K [] s l ls k) ∙ ap (λ z. history_in K [] z l ls k) (sym d.bytes-are));
      }

  pub top : {f : Forest} → Tape src cells 0 count f → forest_legal K f ≡ true → Top src cells K count f
  unfolding forest_legal
  top (at-end e) h = absurd (clash h refl)
  top (at-text d u e r) h = absurd (clash h refl)
  top (at-elem d x y) h = absurd (clash h refl)
  top (at-stamp {t = s} {k = k} {r = r} d x y) h =
      let n = last_number s in
      let h7 = both_true _ (all_small n k) h in
      let h6 = both_true _ (siblings_legal K n [] (always n) k) h7.0 in
      let h4 = both_true _ (leb (nodes k) 1024) h6.0 in
      let h3 = both_true _ (same s (write_times (always n))) h4.0 in
      let h2 = both_true _ (leb n 999) h3.0 in
      let e : r ≡ end = sole-end r (and_left (is_end r) (leb 1 n) h2.0) in
      subst (λ z. Top src cells K count (stamp s k z)) (sym e) (top-stamp s k d x (subst (λ z. Tape src cells (next_at cells 0) count z) e y) h6.1)

top-history : {src cells : List ℕ} {K : KeyList} {count : ℕ} {f : Forest} (o : Top src cells K count f) (ls : List Label) → 0 < length ls
    → history_forest K ls f ≡ or_empty (inside K [] (bytes_at src cells 0) ls o.kids)
top-history o [] b = absurd (omega arith)
top-history o (l ∷ ls) b = o.same l ls

-- a step is left, so no frontier is reached
known-above : (K : KeyList) (p : Path) (j : Label) (js : List Label) → steps_known K p (j ∷ js) ≡ true → above K p ≡ true
known-above K p j js h = by-test (above K p) (λ e. e) (λ e. absurd (clash (known K p j js h).0.place (listed_above K p (name_in j) e)))

-- ---- the text of the nearest `T` in the sibling r is short
part-near : (src cells : List ℕ) (r : ℕ) (around : Bytes) → length around ≤ 32767 → end_in (head_at cells r) ≤ length src → length (near_at src cells r around) ≤ 32767
unfolding near_at
part-near src cells r around h w =
    bool_by (λ t. length (elim t as (λ _. Bytes) [ true ↦ bytes_at src cells r | false ↦ around ]) ≤ 32767) (eqb (head_at cells r % 4) 2)
    (λ _. short-part src (head_at cells r) w) (λ _. h)

-- ---- the labels of the address, and the path of the first i
module _ {text : Bytes} {table : List ℕ} {n : ℕ} {s : Bytes} {steps : Parsed} {values : List (List ℕ)} {src cells : List ℕ} {count : ℕ} (h : HistoryAsked text table n s steps values src cells count) where
  abbrev pub steps_in : Steps h.key_list s steps values
  steps_in = h.parsed.accepted-as h.some-step

  abbrev pub labels_in : List Label
  labels_in = steps_in.steps

  abbrev pub path_at : ℕ → Path
  path_at i = map name_in (take i labels_in)

  abbrev pub history_of : Bytes
  history_of = history_forest h.key_list labels_in h.forest

  -- the key list, the address and the archive are those of the request
  pub history-one : (P : Bytes → Type 0) → P history_of → OfHistory text table n s src cells count P
  history-one P x K f ls t g a =
      let k : h.key_list ≡ K = ok-inj (sym h.tabled.accepted ∙ t.accepted) in
      let l : labels_in ≡ ls = ok-inj (sym steps_in.accepted ∙ ap (λ z. address z s) k ∙ a) in
      let d : h.forest ≡ f = tape-one h.tape g in
      rw (l, d, k) at x

  pub history-given : (P : Bytes → Type 0) → OfHistory text table n s src cells count P → P history_of
  history-given P x = x h.key_list h.forest labels_in h.tabled h.tape steps_in.accepted

  next-label : (i : ℕ) → i < steps.count → drop i labels_in ≡ get_or labels_in i [] ∷ drop (i + 1) labels_in
  next-label i b = drop-cons labels_in i [] (omega (arith, steps_in.counted)) ∙ rw (add-one i) refl

  next-path : (i : ℕ) → i < steps.count → path_at (i + 1) ≡ path_at i ▸ name_in (get_or labels_in i [])
  next-path i b = rw (add-one i) (path-to labels_in i (omega (arith, steps_in.counted)))

-- ---- the walk before step i: it stands in the nodes lo to hi, and the nearest `T` has the text `around`
pub record Way (text : Bytes) (table : List ℕ) (n : ℕ) (s : Bytes) (steps : Parsed) (values : List (List ℕ)) (src cells : List ℕ) (count i : ℕ) (around : Bytes) (lo hi : ℕ) : Type 0 where
  pub asked : HistoryAsked text table n s steps values src cells count
  pub versions : ℕ
  pub times : Times
  pub kids : Forest
  pub tape : Tape src cells lo hi kids
  pub steps-left : steps_known asked.key_list (path_at asked i) (drop i (labels_in asked)) ≡ true
  pub legal : i < steps.count → siblings_legal asked.key_list versions (path_at asked i) times kids ≡ true
  pub short : length around ≤ 32767
  pub same : history_of asked ≡ or_empty (inside asked.key_list (path_at asked i) around (drop i (labels_in asked)) kids)

module _ {text : Bytes} {table : List ℕ} {n : ℕ} {s : Bytes} {steps : Parsed} {values : List (List ℕ)} {src cells : List ℕ} {count : ℕ} where
  pub way-start : HistoryAsked text table n s steps values src cells count
      → Way text table n s steps values src cells count 0 (bytes_at src cells 0) 1 count
  way-start h =
      let o = top h.tape h.legal in
      record {
        asked = h;
        versions = o.versions;
        times = always o.versions;
        kids = o.kids;
        tape = o.tape;
        steps-left = (address-accepted h.key_list s (labels_in h) (steps_in h).accepted).steps;
        legal = λ _. o.legal;
        short = short-part src (head_at cells 0) o.within;
        same = top-history o (labels_in h) (omega (arith, (steps_in h).counted, h.some-step));
      }

  module _ {i lo hi : ℕ} {around : Bytes} (w : Way text table n s steps values src cells count i around lo hi) (b : i < steps.count) where
    abbrev asks : HistoryAsked text table n s steps values src cells count
    asks = w.asked

    -- what the next step asks
    pub way-sought : StepSought text table n s (get_or steps.names i 0) (get_or steps.places i 0) (get_or values i []) src cells lo hi
    way-sought =
        record {
          key_list = asks.key_list;
          path = path_at asks i;
          tabled = asks.tabled;
          step = get_or (labels_in asks) i [];
          step_is = step-below asks.key_list s (labels_in asks) steps.names steps.places values i (omega (arith, (steps_in asks).counted)) ((steps_in asks).step i b);
          versions = w.versions;
          times = w.times;
          siblings = w.kids;
          tape = w.tape;
          legal = w.legal b;
        }

    -- the history so far, by the next step
    next-same : history_of asks ≡ or_empty (history_in asks.key_list (path_at asks i) around (get_or (labels_in asks) i []) (drop (i + 1) (labels_in asks)) w.kids)
    next-same = w.same ∙ ap (λ z. or_empty (inside asks.key_list (path_at asks i) around z w.kids)) (next-label asks i b)

    -- what is said of the step sought holds of this one
    abbrev Of : (KeyList → ℕ → Path → Label → Times → Forest → Type 0) → Type 0
    Of P = OfStep text table n s (get_or steps.names i 0) (get_or steps.places i 0) (get_or values i []) src cells lo hi P

    of-sought : (P : KeyList → ℕ → Path → Label → Times → Forest → Type 0) → Of P → P asks.key_list w.versions (path_at asks i) (get_or (labels_in asks) i []) w.times w.kids
    unfolding way-sought
    of-sought P x = let g = way-sought in x g.key_list g.versions g.path g.step g.times g.siblings g.tabled g.step_is g.tape g.legal

    -- no sibling has the label: no history
    pub way-missing : Of (λ K m q l t f. StepAt src cells K m q l hi f hi) → OfHistory text table n s src cells count (λ z. AroundIs z None)
    way-missing x =
        let y = of-sought (λ K m q l t f. StepAt src cells K m q l hi f hi) x in
        history-one asks (λ z. AroundIs z None) (next-same ∙ ap or_empty (y.missing refl around (drop (i + 1) (labels_in asks))))

    module _ {r : ℕ} (x : Of (λ K m q l t f. Reached src cells K m q l f r)) where
      step-at : Reached src cells asks.key_list w.versions (path_at asks i) (get_or (labels_in asks) i []) w.kids r
      step-at = of-sought (λ K m q l t f. Reached src cells K m q l f r) x

      pub way-held : 2 * r + 1 < length cells
      way-held = step-at.held

      pub way-within : end_in (head_at cells r) ≤ length src
      way-within = step-at.within

      -- into the element with the label
      pub way_on : Way text table n s steps values src cells count (i + 1) (near_at src cells r around) (element_at cells r + 1) (next_at cells r)
      way_on =
          let K = asks.key_list in
          let ls = labels_in asks in
          let y = step-at in
          let q = next-path asks i b in
          let k : steps_known K (path_at asks i ▸ name_in (get_or ls i [])) (drop (i + 1) ls) ≡ true = (known K (path_at asks i) (get_or ls i []) (drop (i + 1) ls) (rw (next-label asks i b) at w.steps-left)).1 in
          record {
            asked = asks;
            versions = w.versions;
            times = y.own;
            kids = y.kids;
            tape = y.tape;
            steps-left = rw q k;
            legal = λ c. rw q (y.below (known-above K (path_at asks i ▸ name_in (get_or ls i [])) (get_or ls (i + 1) []) (drop (i + 1 + 1) ls) (rw (next-label asks (i + 1) c) at k)));
            short = part-near src cells r around w.short y.within;
            same = next-same ∙ ap or_empty (y.on around (drop (i + 1) ls) ∙ ap (λ d. inside K d (near_at src cells r around) (drop (i + 1) ls) y.kids) (sym q));
          }

  -- all steps are taken: the nearest `T` is found
  pub way-done : {i lo hi : ℕ} {around : Bytes} → Way text table n s steps values src cells count i around lo hi → steps.count ≤ i
      → OfHistory text table n s src cells count (λ z. (around ≡ z) × (length around ≤ 32767))
  way-done {i} {lo} {hi} {around} w b =
      let h = w.asked in
      let d : drop i (labels_in h) ≡ [] = drop_of_length-le (labels_in h) {i = i} (omega (arith, (steps_in h).counted)) in
      history-one h (λ z. (around ≡ z) × (length around ≤ 32767)) (sym (w.same ∙ ap (λ z. or_empty (inside h.key_list (path_at h i) around z w.kids)) d), w.short)
