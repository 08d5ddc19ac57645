-- The call without a table that an order asks for.
use Rattle.std.specs.Prelude.{ℕ, ◌≡◌, refl, List, [], ◌++◌, length, drop}
use Rattle.std.proofs.Common.{sym, ◌∙◌, ap, subst}
use Rattle.xml.specs.Bytes.{Bytes}
use Rattle.keys.specs.Result.{Result, refused, ok, ◌>>=◌, ◌>>◌}
use Rattle.keys.specs.KeyList.{key_list}
use Rattle.versions.specs.Calls.{Answer, answer, room, at_most, check_keys, found, add, retrieve, history, longest_history, out_after}
use Rattle.archive.specs.CheckLaws.{Checks}
use Rattle.archive.specs.Giving.{Ends}
use Rattle.station.specs.declared.words.Call.{Call}
use Rattle.station.specs.declared.words.Call.TheVariants.{Check, Found, Add, Retrieve, History, Longest}

-- the answer of each call, with an output of `out` bytes and `work` cells
abbrev pub asked : Call → (keys archive text : List ℕ) (i out work : ℕ) → Answer
asked Check keys archive text i out work = check_keys keys work
asked Found keys archive text i out work = found keys text out work
asked Add keys archive text i out work = add keys text archive out work
asked Retrieve keys archive text i out work = retrieve keys archive i out work
asked History keys archive text i out work = history keys archive text out work
asked Longest keys archive text i out work = longest_history i out work

-- ---- checking a key list gives no bytes
quiet_then : (r : Result (Unit {0})) (x : Result Bytes) → (answer x).bytes ≡ [] → (answer (r >> x)).bytes ≡ []
unfolding answer
quiet_then (refused n) x e = refl
quiet_then (ok a) x e = e

quiet_bind : {A : Type 0} (r : Result A) (g : A → Result Bytes) → ((a : A) → (answer (g a)).bytes ≡ []) → (answer (r >>= g)).bytes ≡ []
unfolding answer
quiet_bind (refused n) g e = refl
quiet_bind (ok a) g e = e a

check-quiet : (keys : Bytes) (work : ℕ) → (check_keys keys work).bytes ≡ []
unfolding check_keys answer
check-quiet keys work = quiet_then (room work) _ (quiet_then (at_most 4096 keys) _ (quiet_bind (key_list keys) (λ K. ok []) (λ K. refl)))

-- so it leaves an output as it was
pub check-ends : (keys out work : List ℕ) {number size : ℕ} {cells : List ℕ} → Checks keys work number size cells → Ends (check_keys keys (length work)) out work number size out cells
unfolding out_after
check-ends keys out work c =
    let q = check-quiet keys (length work) in
    record { number_is = c.0; size_is = c.1 ∙ ap length (sym q); out-is = subst (λ s. out ≡ s ++ drop (length s) out) (sym q) refl; work-is = c.2 }

-- a call that is known
module _ (keys archive text : List ℕ) (i : ℕ) (out work : List ℕ) where
  pub asks : {o o' : Call} {number size : ℕ} {left cells : List ℕ} → o ≡ o' → Ends (asked o' keys archive text i (length out) (length work)) out work number size left cells
      → Ends (asked o keys archive text i (length out) (length work)) out work number size left cells
  asks {number = number} {size = size} {left = left} {cells = cells} e x =
      subst (λ q. Ends (asked q keys archive text i (length out) (length work)) out work number size left cells) (sym e) x
