-- The record of one station: the worked archives, the table P1 to P10, and the station struck off and relit.
use Rattle.std.specs.Prelude.{ℕ, ◌≡◌, refl, List, [], ◌∷◌, map}
use Rattle.xml.specs.Bytes.{Bytes, bytes}
use Rattle.marks.specs.Marks.{entries}
use Rattle.versions.specs.Calls.{Answer, found, add, retrieve, history, step_back, calls_compute}

abbrev keys : Bytes
keys = bytes "(/, (station, {}))\n(/station, (light, {}))\n(/station, (lamp, {pos}))\n(/station/lamp, (type, {}))\n(/station/lamp, (hours, {}))\n"

abbrev v1 : Bytes
v1 = bytes "<station><light>Fl 5s</light><lamp><pos>2</pos><type>A</type><hours>40</hours></lamp></station>"

abbrev v2 : Bytes
v2 = bytes "<station><light>Fl 5s</light><lamp><pos>2</pos><type>A</type><hours>90</hours></lamp><lamp><pos>1</pos><type>B</type></lamp></station>"

abbrev v3 : Bytes
v3 = bytes "<station><light>Fl 5s</light><lamp><pos>1</pos><type>B</type></lamp></station>"

abbrev line1 : Bytes
line1 = bytes "<T t=\"1\"><station><lamp><hours>40</hours><pos>2</pos><type>A</type></lamp><light>Fl 5s</light></station></T>"

abbrev line2 : Bytes
line2 = bytes "<T t=\"1-2\"><station><T t=\"2\"><lamp><pos>1</pos><type>B</type></lamp></T><lamp><hours><T t=\"1\">40</T><T t=\"2\">90</T></hours><pos>2</pos><type>A</type></lamp><light>Fl 5s</light></station></T>"

abbrev line3 : Bytes
line3 = bytes "<T t=\"1-3\"><station><T t=\"2-3\"><lamp><pos>1</pos><type>B</type></lamp></T><T t=\"1-2\"><lamp><hours><T t=\"1\">40</T><T t=\"2\">90</T></hours><pos>2</pos><type>A</type></lamp></T><light>Fl 5s</light></station></T>"

-- struck off after v3: the root is in its own `T`
abbrev line4 : Bytes
line4 = bytes "<T t=\"1-4\"><T t=\"1-3\"><station><T t=\"2-3\"><lamp><pos>1</pos><type>B</type></lamp></T><T t=\"1-2\"><lamp><hours><T t=\"1\">40</T><T t=\"2\">90</T></hours><pos>2</pos><type>A</type></lamp></T><light>Fl 5s</light></station></T></T>"

-- relit as v3
abbrev line5 : Bytes
line5 = bytes "<T t=\"1-5\"><T t=\"1-3,5\"><station><T t=\"2-3,5\"><lamp><pos>1</pos><type>B</type></lamp></T><T t=\"1-2\"><lamp><hours><T t=\"1\">40</T><T t=\"2\">90</T></hours><pos>2</pos><type>A</type></lamp></T><light>Fl 5s</light></station></T></T>"

-- never lit, and lit as v1 in its third version
abbrev unlit1 : Bytes
unlit1 = bytes "<T t=\"1\"></T>"

abbrev unlit2 : Bytes
unlit2 = bytes "<T t=\"1-2\"></T>"

abbrev lit3 : Bytes
lit3 = bytes "<T t=\"1-3\"><T t=\"3\"><station><lamp><hours>40</hours><pos>2</pos><type>A</type></lamp><light>Fl 5s</light></station></T></T>"

abbrev two_lamps : Bytes
two_lamps = bytes "<station><lamp><pos>2</pos></lamp><lamp><pos>2</pos></lamp></station>"

abbrev no_pos : Bytes
no_pos = bytes "<station><lamp><type>A</type></lamp></station>"

abbrev success : Bytes → Answer
success s = record { number = 0; bytes = s }

abbrev refusal : ℕ → Answer
refusal n = record { number = n; bytes = [] }

-- what is asked, and what documents 01 and 02 answer
abbrev table : List (Answer × Answer)
table =
    (found keys v1 32768 16384, success line1) ∷
    (add keys v2 line1 32768 16384, success line2) ∷
    (add keys v3 line2 32768 16384, success line3) ∷
    -- P1 to P5; "P4 to P6 lend a table of unused entries"
    (history keys line3 (bytes "/station/lamp[pos=\"1\"]") 32768 16384, success (bytes "2-3")) ∷
    (history keys line3 (bytes "/station/lamp[pos=\"2\"]/hours") 32768 16384, success (bytes "1-2")) ∷
    (history keys line3 (bytes "/station/lamp[pos=\"7\"]") 32768 16384, success []) ∷
    ((step_back keys line3 (entries []) 2 32768 16384).answer, success line2) ∷
    ((step_back keys line3 (entries []) 1 32768 16384).answer, success line1) ∷
    -- P6 to P10; P8 as Q-6 has it: an empty version is legal
    ((step_back keys line3 (entries []) 0 32768 16384).answer, refusal 11) ∷
    (retrieve keys line3 4 32768 16384, refusal 11) ∷
    (add keys [] line3 32768 16384, success line4) ∷
    (add keys two_lamps line3 32768 16384, refusal 9) ∷
    (add keys no_pos line3 32768 16384, refusal 8) ∷
    -- the station struck off by white space alone, and relit; its root's history, the vacant version, and back across it
    (add keys (bytes " \t\r\n") line3 32768 16384, success line4) ∷
    (add keys v3 line4 32768 16384, success line5) ∷
    (history keys line5 (bytes "/station") 32768 16384, success (bytes "1-3,5")) ∷
    (retrieve keys line5 4 0 16384, success []) ∷
    ((step_back keys line5 (entries []) 4 32768 16384).answer, success line4) ∷
    ((step_back keys line5 (entries []) 3 32768 16384).answer, success line3) ∷
    -- vacant from the first version on
    (found keys [] 32768 16384, success unlit1) ∷
    (add keys [] unlit1 32768 16384, success unlit2) ∷
    (history keys unlit2 (bytes "/station") 32768 16384, success []) ∷
    (add keys v1 unlit2 32768 16384, success lit3) ∷
    ((step_back keys lit3 (entries []) 2 32768 16384).answer, success unlit2) ∷ []

pub station : map (λ r. r.0) table ≡ map (λ r. r.1) table
unfolding calls_compute
station = refl
