-- Building the second tape: what its functions ask and ensure, and the siblings built so far.
use Rattle.std.specs.Prelude.{Option, Some, None, is_none, ℕ, ◌+◌, ◌*◌, ◌<◌, ◌≤◌, ◌≡◌, refl, true, false, ◌||◌, List, length, get_or}
use Rattle.std.proofs.Common.{arith, ◌∙◌}
use Rattle.std.proofs.Math.Path.{sym, ap}
use Rattle.xml.specs.Bytes.{Bytes}
use Rattle.xml.specs.Truth.{or-first}
use Rattle.xml.specs.Forest.{Forest, end, elem, join}
use Rattle.xml.specs.Complete.{join-end, join-assoc}
use Rattle.xml.specs.Held.{size-join}
use Rattle.xml.specs.Tape.{next_at, Node, Tape, at-end, size}
use Rattle.xml.specs.TapeLaws.{tape-le, tape-size, tape-join, tape-one, tape-same}
use Rattle.keys.specs.KeyList.{Path, KeyList, above}
use Rattle.keys.specs.KeyListLaws.{rules-kept}
use Rattle.keys.specs.Version.{◌▸◌, drop_white, misplaced, unkeyed, doubled}
use Rattle.keys.specs.Table.{place_of, Table}
use Rattle.keys.specs.Placed.{OfPlace}
use Rattle.keys.specs.Checked.{at_place, Checked}
use Rattle.keys.specs.Siblings.{Each, each_with, twins, doubled_kids, elements}
use Rattle.keys.specs.SiblingLaws.{doubled-parts, kids-end, kids-elem, kids-order}
use Rattle.keys.specs.Doubles.{DoubledIn, DoubledKid}
use Rattle.keys.specs.Entries.{Entry, Lists, no_more, one_more, Few, Sorted, lists-le, lists-none}
use Rattle.keys.specs.ResultLaws.{none-not, some-is}
use Rattle.keys.specs.Arranged.{arranged, each_arranged, Kid, arranged-tags, order-kids, arranged-order}

-- the nodes lo to hi are children of an element at the place, have passed 7 and 8, and fit from node m on
pub record ContentFit (key_text : Bytes) (table : List ℕ) (n place : ℕ) (src cells : List ℕ) (lo hi m : ℕ) : Type 0 where
  pub key_list : KeyList
  pub path : Path
  pub tabled : Table key_text table n key_list
  pub place_is : place_of key_list path ≡ place
  pub forest : Forest
  pub tape : Tape src cells lo hi forest
  pub start : 2 * lo ≤ length cells
  pub placed : misplaced key_list path (drop_white key_list path forest) ≡ false
  pub keyed : unkeyed key_list path forest ≡ false
  pub fits : m + size (arranged key_list path forest) ≤ 512

-- the same of one element, p, in an element at the place
pub record ElementFit (key_text : Bytes) (table : List ℕ) (n place : ℕ) (src cells : List ℕ) (p m : ℕ) : Type 0 where
  pub key_list : KeyList
  pub path : Path
  pub tabled : Table key_text table n key_list
  pub place_is : place_of key_list path ≡ place
  pub high : above key_list path ≡ true
  pub name : Bytes
  pub kids : Forest
  pub node : Node src cells p 1 name
  pub tape : Tape src cells (p + 1) (next_at cells p) kids
  pub kid : Kid key_list path name kids
  pub fits : m + 1 + size (arranged key_list (path ▸ name) kids) ≤ 512

-- cells below node m are as they were
abbrev pub Below : List ℕ → ℕ → List ℕ → Type 0
Below out m left = (i : ℕ) → i < 2 * m → get_or left i 0 ≡ get_or out i 0

pub record ContentBuilt (key_text : Bytes) (table : List ℕ) (n place : ℕ) (src cells : List ℕ) (lo hi : ℕ) (out : List ℕ) (m r : ℕ) (left : List ℕ) : Type 0 where
  pub kept : Below out m left
  pub tape : OfPlace key_text table n place (λ K q. (f : Forest) → Tape src cells lo hi f → Tape src left m r (arranged K q f))

pub record ElementBuilt (key_text : Bytes) (table : List ℕ) (n place : ℕ) (src cells : List ℕ) (p : ℕ) (out : List ℕ) (m r : ℕ) (left : List ℕ) : Type 0 where
  pub kept : Below out m left
  pub tape : OfPlace key_text table n place
      (λ K q. (b : Bytes) (k : Forest) → Node src cells p 1 b → Tape src cells (p + 1) (next_at cells p) k → Tape src left m r (elem b (arranged K (q ▸ b) k) end))

-- the answer r: none where 9 applies, else the node after what is built
pub record ContentArranged (key_text : Bytes) (table : List ℕ) (n place : ℕ) (src cells : List ℕ) (lo hi : ℕ) (out : List ℕ) (m : ℕ) (r : Option ℕ) (left : List ℕ) : Type 0 where
  pub doubled-is : DoubledIn key_text table n place src cells lo hi (is_none r)
  pub built : (e : ℕ) → r ≡ Some e → ContentBuilt key_text table n place src cells lo hi out m e left

pub record ElementArranged (key_text : Bytes) (table : List ℕ) (n place : ℕ) (src cells : List ℕ) (p : ℕ) (out : List ℕ) (m : ℕ) (r : Option ℕ) (left : List ℕ) : Type 0 where
  pub doubled-is : DoubledKid key_text table n place src cells p (is_none r)
  pub built : (e : ℕ) → r ≡ Some e → ElementBuilt key_text table n place src cells p out m e left

module _ {key_text : Bytes} {table : List ℕ} {n place : ℕ} {src cells : List ℕ} {lo hi : ℕ} {out : List ℕ} {m : ℕ} {left : List ℕ} where
  content-twice : DoubledIn key_text table n place src cells lo hi true → ContentArranged key_text table n place src cells lo hi out m None left
  content-twice d = record { doubled-is = d; built = λ e x. none-not x }

  pub content-once : {r : ℕ} → DoubledIn key_text table n place src cells lo hi false → ContentBuilt key_text table n place src cells lo hi out m r left
      → ContentArranged key_text table n place src cells lo hi out m (Some r) left
  content-once d b = record { doubled-is = d; built = λ e x. rw (sym (some-is x)) b }

size-next : (d : Forest) (n : Bytes) (k r : Forest) → size (join d (elem n k r)) ≡ size d + (1 + size k + size r)
unfolding size
size-next d n k r = size-join d (elem n k r)

-- ---- siblings: those built, and those of the entries j to k still to come
pub record Progress (key_text : Bytes) (table : List ℕ) (n place : ℕ) (src cells : List ℕ) (lo hi : ℕ) (out : List ℕ) (m : ℕ) (order : List ℕ) (j k to : ℕ) (now : List ℕ) : Type 0 where
  pub key_list : KeyList
  pub path : Path
  pub tabled : Table key_text table n key_list
  pub place_is : place_of key_list path ≡ place
  pub high : above key_list path ≡ true
  pub forest : Forest
  pub tape : Tape src cells lo hi forest
  pub fits : m + size (arranged key_list path forest) ≤ 512
  pub done : Forest
  pub rest : Forest
  pub built : Tape src now m to done
  pub lists : Lists src cells lo hi order j k rest
  pub kids : Each (Kid key_list path) rest
  pub whole : arranged key_list path forest ≡ join done (each_arranged key_list path rest)
  pub alike : doubled key_list path forest ≡ doubled_kids key_list path rest
  pub kept : Below out m now
  pub long : length now ≡ length out

-- the next element, and those after it
pub record Turn (key_list : KeyList) (path : Path) (src cells : List ℕ) (lo hi : ℕ) (order : List ℕ) (j k : ℕ) (forest done : Forest) (to : ℕ) : Type 0 where
  pub name : Bytes
  pub kids : Forest
  pub rest : Forest
  pub entry : Entry src cells lo hi (get_or order j 0) name kids
  pub lists : Lists src cells lo hi order (j + 1) k rest
  pub kid : Kid key_list path name kids
  pub others : Each (Kid key_list path) rest
  pub whole : arranged key_list path forest ≡ join done (elem name (arranged key_list (path ▸ name) kids) (each_arranged key_list path rest))
  pub alike : doubled key_list path forest ≡ (doubled key_list (path ▸ name) kids || doubled_kids key_list path rest)
  pub room : to + 1 + size (arranged key_list (path ▸ name) kids) ≤ 512

module _ {key_text : Bytes} {table : List ℕ} {n place : ℕ} {src cells : List ℕ} {lo hi : ℕ} {out : List ℕ} {m : ℕ} {order : List ℕ} {j k to : ℕ} {now : List ℕ}
    (x : Progress key_text table n place src cells lo hi out m order j k to now) where
  pub turn : j < k → Turn x.key_list x.path src cells lo hi order j k x.forest x.done to
  turn l = go x.lists x.kids x.whole x.alike
    where
      go : {r : Forest} → Lists src cells lo hi order j k r → Each (Kid x.key_list x.path) r → arranged x.key_list x.path x.forest ≡ join x.done (each_arranged x.key_list x.path r)
          → doubled x.key_list x.path x.forest ≡ doubled_kids x.key_list x.path r → Turn x.key_list x.path src cells lo hi order j k x.forest x.done to
      go (no_more e) h w a = absurd (omega arith)
      go (one_more {n = b} {k = f} {r = r} e t) h w a =
          let z : arranged x.key_list x.path x.forest ≡ join x.done (elem b (arranged x.key_list (x.path ▸ b) f) (each_arranged x.key_list x.path r)) = unfold each_with in w in
          record {
            name = b;
            kids = f;
            rest = r;
            entry = e;
            lists = t;
            kid = h.0;
            others = h.1;
            whole = z;
            alike = a ∙ kids-elem x.key_list x.path b f r;
            room = omega (arith, tape-size x.built, x.fits, ap size z ∙ size-next x.done b (arranged x.key_list (x.path ▸ b) f) (each_arranged x.key_list x.path r));
          }

  module _ (l : j < k) where
    pub turn-fit : ElementFit key_text table n place src cells (get_or order j 0) to
    turn-fit =
        let y = turn l in
        record {
          key_list = x.key_list;
          path = x.path;
          tabled = x.tabled;
          place_is = x.place_is;
          high = x.high;
          name = y.name;
          kids = y.kids;
          node = y.entry.node;
          tape = y.entry.inner;
          kid = y.kid;
          fits = y.room;
        }

    -- what is known of the next
    kid_is : {to' : Option ℕ} {left : List ℕ} → ElementArranged key_text table n place src cells (get_or order j 0) now to to' left
        → is_none to' ≡ doubled x.key_list (x.path ▸ (turn l).name) (turn l).kids
    kid_is b = let y = turn l in b.doubled-is x.key_list x.path x.tabled x.place_is y.name y.kids y.entry.node y.entry.inner

    -- 9 applies to it
    pub progress-twice : {to' : Option ℕ} {left : List ℕ} → ElementArranged key_text table n place src cells (get_or order j 0) now to to' left → to' ≡ None
        → ContentArranged key_text table n place src cells lo hi out m None left
    progress-twice {to'} b e =
        let y = turn l in
        content-twice (at_place (λ K q. (f : Forest) → Tape src cells lo hi f → true ≡ doubled K q f) x.path x.tabled x.place_is x.high
        (λ f h. rw (tape-one h x.tape) (sym (y.alike ∙ or-first (doubled x.key_list (x.path ▸ y.name) y.kids) (doubled_kids x.key_list x.path y.rest) (sym (kid_is b) ∙ ap is_none e)))))

    -- one more is built
    pub progress-more : {r : Option ℕ} {to' : ℕ} {left : List ℕ} → ElementArranged key_text table n place src cells (get_or order j 0) now to r left → r ≡ Some to' → length left ≡ length now
        → 2 * to ≤ length left → Progress key_text table n place src cells lo hi out m order (j + 1) k to' left
    progress-more {to' = to'} {left = left} a d e r =
        let y = turn l in
        let b = a.built to' d in
        let z : doubled x.key_list (x.path ▸ y.name) y.kids ≡ false = sym (kid_is a) ∙ ap is_none d in
        let f = arranged x.key_list (x.path ▸ y.name) y.kids in
        record {
          key_list = x.key_list;
          path = x.path;
          tabled = x.tabled;
          place_is = x.place_is;
          high = x.high;
          forest = x.forest;
          tape = x.tape;
          fits = x.fits;
          done = join x.done (elem y.name f end);
          rest = y.rest;
          built = tape-join (tape-same left (record { room = r; same = λ i g h. b.kept i h }) x.built)
              (b.tape x.key_list x.path x.tabled x.place_is y.name y.kids y.entry.node y.entry.inner);
          lists = y.lists;
          kids = y.others;
          whole = y.whole ∙ unfold join in sym (join-assoc x.done (elem y.name f end) (each_arranged x.key_list x.path y.rest));
          alike = y.alike ∙ rw z;
          kept = λ i h. b.kept i (omega (arith, tape-le x.built)) ∙ x.kept i h;
          long = e ∙ x.long;
        }

  -- none is left
  progress-none : k ≤ j → x.rest ≡ end
  progress-none l = let e : k ≡ j = omega (arith, lists-le x.lists) in lists-none (rw e at x.lists)

  progress-all : k ≤ j → arranged x.key_list x.path x.forest ≡ x.done
  progress-all l = x.whole ∙ ap (λ r. join x.done (each_arranged x.key_list x.path r)) (progress-none l) ∙ unfold each_with in join-end x.done

  progress-once : k ≤ j → doubled x.key_list x.path x.forest ≡ false
  progress-once l = x.alike ∙ ap (doubled_kids x.key_list x.path) (progress-none l) ∙ kids-end x.key_list x.path

  pub progress-done : k ≤ j → ContentArranged key_text table n place src cells lo hi out m (Some to) now
  progress-done l =
      content-once
      (at_place (λ K q. (f : Forest) → Tape src cells lo hi f → false ≡ doubled K q f) x.path x.tabled x.place_is x.high (λ f h. rw (tape-one h x.tape) (sym (progress-once l))))
      (record {
        kept = x.kept;
        tape = at_place (λ K q. (f : Forest) → Tape src cells lo hi f → Tape src now m to (arranged K q f)) x.path x.tabled x.place_is x.high
            (λ f h. rw (tape-one h x.tape, progress-all l) x.built);
      })

-- ---- how it begins
module _ {key_text : Bytes} {table : List ℕ} {n place : ℕ} {src cells : List ℕ} {lo hi m : ℕ} (g : ContentFit key_text table n place src cells lo hi m) where
  pub fit-checked : Checked key_text table n place src cells lo hi
  fit-checked = record { key_list = g.key_list; path = g.path; tabled = g.tabled; place_is = g.place_is; forest = g.forest; tape = g.tape; keyed = g.keyed }

  pub fit-few-tags : Few src cells lo hi
  fit-few-tags f h = rw (tape-one h g.tape) (omega (arith, g.fits, arranged-tags g.key_list g.path g.forest g.placed))

  module _ (out order : List ℕ) (r : Option ℕ) (h : above g.key_list g.path ≡ true) (s : Sorted g.key_list g.path src cells lo hi order g.forest r) where
    -- two have the same label
    pub fit-twice : {left : List ℕ} → r ≡ None → ContentArranged key_text table n place src cells lo hi out m None left
    fit-twice e =
        content-twice (at_place (λ K q. (f : Forest) → Tape src cells lo hi f → true ≡ doubled K q f) g.path g.tabled g.place_is h
        (λ f t. rw (tape-one t g.tape) (sym (doubled-parts g.key_list g.path g.forest h
        ∙ or-first (twins g.key_list g.path (elements g.forest)) (doubled_kids g.key_list g.path g.forest) (s.alike e)))))

    -- no two have
    pub progress_start : (k : ℕ) → r ≡ Some k → Progress key_text table n place src cells lo hi out m order 0 k m out
    progress_start k apart =
        let rules = rules-kept key_text g.key_list g.tabled.accepted in
        record {
          key_list = g.key_list;
          path = g.path;
          tabled = g.tabled;
          place_is = g.place_is;
          high = h;
          forest = g.forest;
          tape = g.tape;
          fits = g.fits;
          done = end;
          rest = _;
          built = at-end refl;
          lists = s.lists k apart;
          kids = order-kids g.key_list g.path rules h g.forest g.placed g.keyed;
          whole = unfold join in arranged-order g.key_list g.path rules h g.forest g.placed g.keyed;
          alike = doubled-parts g.key_list g.path g.forest h ∙ rw (s.apart k apart) (sym (kids-order g.key_list g.path g.forest));
          kept = λ i l. refl;
          long = refl;
        }
