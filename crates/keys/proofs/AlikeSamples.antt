-- Version 1 of the record of one station with its keyed siblings in another order; two vacant texts; line ends; and elements whose order counts.
use Rattle.std.specs.Prelude.{ℕ, ◌≡◌, refl, [], get_or}
use Rattle.std.proofs.Common.{arith, sym, ◌∙◌, ap}
use Rattle.xml.specs.Bytes.{Bytes, bytes, line_ends}
use Rattle.xml.specs.Forest.{Forest, end, elem, text, write}
use Rattle.xml.specs.Read.{whole}
use Rattle.keys.specs.Result.{Result, refused, ok}
use Rattle.keys.specs.ResultLaws.{ok-inj}
use Rattle.keys.specs.KeyList.{KeyList, key_list}
use Rattle.keys.specs.Version.{read_version, version, version_compute}
use Rattle.keys.specs.VersionRead.{read_version-sound}
use Rattle.keys.specs.Alike.{Alike, swapped, moved, inside, beyond, as_is, backwards, then, AnyOrder}
use Rattle.keys.proofs.AlikeKept.{any_order}

abbrev keys : Bytes
keys = bytes "(/, (station, {}))\n(/station, (light, {}))\n(/station, (lamp, {pos}))\n(/station/lamp, (type, {}))\n(/station/lamp, (hours, {}))\n"

abbrev list : Result KeyList → KeyList
list (ok K) = K
list (refused n) = []

abbrev K : KeyList
K = list (key_list keys)

abbrev station : Forest → Forest
station k = elem (bytes "station") k end

abbrev light : Forest → Forest
light r = elem (bytes "light") (text (bytes "Fl 5s") end) r

abbrev lamp : Forest → Forest
lamp r = elem (bytes "lamp") (elem (bytes "pos") (text (bytes "2") end) (elem (bytes "type") (text (bytes "A") end) (elem (bytes "hours") (text (bytes "40") end) end))) r

-- texts are alike by the forests that are read of them
by-reading : (s t : Bytes) (f g : Forest) → read_version (line_ends s) ≡ whole f → read_version (line_ends t) ≡ whole g → Alike K [] f g → AnyOrder K s t
by-reading s t f g d e a =
    record { first = f; second = g; first-spelled = read_version-sound (line_ends s) f d; second-spelled = read_version-sound (line_ends t) g e; alike = a }

-- the lamp before the light
pub lamp-first : AnyOrder K (bytes "<station><light>Fl 5s</light><lamp><pos>2</pos><type>A</type><hours>40</hours></lamp></station>") (bytes "<station><lamp><pos>2</pos><type>A</type><hours>40</hours></lamp><light>Fl 5s</light></station>")
unfolding version_compute
lamp-first = by-reading _ _ (station (light (lamp end))) (station (lamp (light end))) refl refl (inside (swapped refl))

-- with white space between them
pub lamp-first-spaced : AnyOrder K (bytes "<station><light>Fl 5s</light>\n<lamp><pos>2</pos><type>A</type><hours>40</hours></lamp></station>") (bytes "<station><lamp><pos>2</pos><type>A</type><hours>40</hours></lamp>\n<light>Fl 5s</light></station>")
unfolding version_compute
lamp-first-spaced =
    by-reading _ _ (station (light (text (bytes "\n") (lamp end)))) (station (lamp (text (bytes "\n") (light end)))) refl refl
    (inside (then (moved refl) (then (beyond (swapped refl)) (backwards (moved refl)))))

-- a vacant version, empty or of white space
pub both-vacant : AnyOrder K [] (bytes " \n")
unfolding version_compute
both-vacant = by-reading _ _ end end refl refl as_is

-- line ends as another tablet has them
pub other-tablet : AnyOrder K (bytes "<station>\n<light>Fl 5s\n\n</light></station>") (bytes "<station>\r\n<light>Fl 5s\r\n\r</light></station>")
unfolding version_compute
other-tablet =
    let f = station (text (bytes "\n") (elem (bytes "light") (text (bytes "Fl 5s\n\n") end) end)) in
    by-reading _ _ f f refl refl as_is

-- ---- beneath a frontier elements have their order
abbrev ab : Bytes
ab = bytes "<station><light><a></a><b></b></light></station>"

abbrev ba : Bytes
ba = bytes "<station><light><b></b><a></a></light></station>"

abbrev notes : Bytes → Bytes → Forest
notes a b = station (elem (bytes "light") (elem a end (elem b end end)) end)

keys-legal : key_list keys ≡ ok K
unfolding version_compute
keys-legal = refl

ab-kept : version K ab ≡ ok (notes (bytes "a") (bytes "b"))
unfolding version_compute
ab-kept = refl

ba-kept : version K ba ≡ ok (notes (bytes "b") (bytes "a"))
unfolding version_compute
ba-kept = refl

pub other-order : AnyOrder K ab ba → ⊥
unfolding version_compute
other-order o =
    let e = ok-inj (sym ab-kept ∙ any_order keys K keys-legal ab ba o ∙ ba-kept) in
    let z : ◌≡◌ {A = ℕ} 97 98 = ap (λ f. get_or (write f) 17 0) e in
    omega arith
