-- Vacant versions, under every key list: which texts are of one, that it holds no address and is retrieved with length 0, and the archive
-- of versions that are all vacant.
use Rattle.std.specs.Prelude.{ℕ, zero, suc, ◌≤◌, ◌≡◌, true, length, replicate}
use Rattle.std.proofs.Common.{arith, ◌∙◌, ap, ap₂, subst, le-ltb}
use Rattle.std.proofs.Math.Path.{refl, sym}
use Rattle.std.proofs.Math.Bool.{false}
use mathlib.Core.List.{List, [], ◌∷◌, map}
use Rattle.std.proofs.lemmas.List.{length-replicate}
use Rattle.xml.specs.Bytes.{Bytes, all, is_white, line_ends}
use Rattle.xml.specs.Forest.{Forest, end, elem, text, stamp, write, nodes, depth, Tidy, Root}
use Rattle.xml.specs.Read.{is_end}
use Rattle.xml.proofs.Lines.{white-lines}
use Rattle.xml.specs.RoundTrip.{read-tidy}
use Rattle.xml.specs.Truth.{clash, by-test, bool_by}
use Rattle.model.specs.Gather.{gather}
use Rattle.model.specs.Keyed.{nil, merge_by, fresh}
use Rattle.model.specs.Orders.{labels}
use Rattle.model.specs.Stored.{merge_s}
use Rattle.keys.specs.Result.{ok, r6, r7, r8, r9}
use Rattle.keys.specs.ResultLaws.{ok-inj, bind_inv, passed}
use Rattle.keys.specs.KeyList.{KeyList, key_list, above}
use Rattle.keys.specs.Version.{◌▸◌, Label, drop_white, too_large, misplaced, unkeyed, find, doubled, insert_by, ordered, parsed, read_version, version}
use Rattle.keys.specs.VersionRead.{read-vacant, read-rooted}
use Rattle.keys.specs.Versions.{parsed-inv}
use Rattle.keys.specs.Address.{address, holds}
use Rattle.keys.specs.AddressRead.{address-accepted}
use Rattle.keys.specs.Tree.{contents, keyed}
use Rattle.timestamp.specs.Times.{always, write_times}
use Rattle.versions.specs.Archive.{archive, stamped, archive_forest, archive_of, archive_text}
use Rattle.versions.specs.Calls.{answer, room, at_most, version_at, give, retrieve}

-- ---- which texts are vacant
-- a root is kept
root_kept : (K : KeyList) (f : Forest) → Tidy false f → Root f → ordered K [] (drop_white K [] f) ≡ end → ⊥
unfolding drop_white ordered insert_by is_end
root_kept K end t o e = o
root_kept K (text b r) t o e = o
root_kept K (stamp s k r) t o e = clash (sym t.0)
root_kept K (elem n k r) t o e =
    bool_by (λ x. elim x as (λ _. Forest) [ true ↦ elem n (ordered K ([] ▸ n) (drop_white K ([] ▸ n) k)) end | false ↦ elem n (drop_white K ([] ▸ n) k) end ] ≡ end → ⊥) (above K [])
    (λ _ h. clash (sym (ap is_end h))) (λ _ h. clash (sym (ap is_end h))) (subst (λ z. ordered K [] (drop_white K [] (elem n k z)) ≡ end) o e)

module _ (K : KeyList) (s : Bytes) where
  -- "A version that is empty or white space alone is now legal"
  pub white-vacant : all is_white s ≡ true → version K s ≡ ok end
  unfolding version parsed drop_white too_large misplaced unkeyed doubled ordered depth nodes write
  white-vacant e = rw (read-vacant (line_ends s) (white-lines s ∙ e)) refl

  -- and no other text is a vacant version's
  pub vacant-white : version K s ≡ ok end → all is_white s ≡ true
  unfolding version
  vacant-white e = sym (white-lines s) ∙ by-test (all is_white (line_ends s)) (λ w. w) (λ b.
      let f = bind_inv (parsed (read_version (line_ends s))) _ end e in
      let w = drop_white K [] f.0 in
      let x6 = passed r6 (too_large w) _ end f.2 in
      let x7 = passed r7 (misplaced K [] w) _ end x6.1 in
      let x8 = passed r8 (unkeyed K [] w) _ end x7.1 in
      let x9 = passed r9 (doubled K [] w) _ end x8.1 in
      let t = read-tidy false (line_ends s) f.0 (sym (read-rooted (line_ends s) b) ∙ parsed-inv (read_version (line_ends s)) f.0 f.1) in
      absurd (root_kept K f.0 t.0 t.1 (ok-inj x9.1)))

-- "and holds no address"
pub vacant-holds : (K : KeyList) (place : Bytes) (ls : List Label) → address K place ≡ ok ls → holds K [] ls end ≡ false
unfolding holds find
vacant-holds K place [] e = absurd ((address-accepted K place [] e).some-step refl)
vacant-holds K place (l ∷ ls) e = refl

-- "Retrieving such a version gives length 0", into whatever output
pub vacant-retrieved : (keys archive : Bytes) (K : KeyList) (vs : List Forest) (i out work : ℕ) → 16384 ≤ work → length keys ≤ 4096 → length archive ≤ 32768
    → key_list keys ≡ ok K → archive_text K archive ≡ ok vs → version_at i vs ≡ ok end → retrieve keys archive i out work ≡ record { number = 0; bytes = [] }
unfolding retrieve answer room at_most give write
vacant-retrieved keys archive K vs i out work w a b k e v =
    rw (le-ltb work 16384 w, le-ltb 4096 (length keys) a, le-ltb 32768 (length archive) b, k, e, v, le-ltb out 0 (omega arith)) refl

-- ---- versions that are all vacant
none-merged : (K : KeyList) (m n : ℕ) → gather (merge_s labels contents) m nil (map (keyed K []) (replicate n end)) ≡ nil
unfolding gather merge_by fresh keyed
none-merged K m zero = refl
none-merged K m (suc n) = none-merged K (suc m) n

-- "The outer `T` still reads `1-n`", and the root is "left out if no version has it"
pub all-vacant : (K : KeyList) (n : ℕ) → archive_of K (replicate n end) ≡ stamp (write_times (always n)) end end
unfolding archive_of archive archive_forest stamped
all-vacant K n = ap₂ archive_forest (length-replicate n end) (none-merged K 0 n)
