-- Texts that are read by computing: what each spells, or the place of its first wrong byte.
use Rattle.std.specs.Prelude.{◌≡◌, refl, true, false}
use Rattle.xml.specs.Bytes.{bytes}
use Rattle.xml.specs.Forest.{end, elem, text, stamp}
use Rattle.xml.specs.Read.{whole, broken, read, read_compute}

-- a record with text and elements
pub station : read false (bytes "<station><light>Fl 5s</light><lamp><pos>2</pos><hours>40</hours></lamp></station>") ≡ whole (elem (bytes "station") (elem (bytes "light") (text (bytes "Fl 5s") end) (elem (bytes "lamp") (elem (bytes "pos") (text (bytes "2") end) (elem (bytes "hours") (text (bytes "40") end) end)) end)) end)
unfolding read_compute
station = refl

-- each entity stands for its byte; `]]` may stand before `&gt;`
pub entities : read false (bytes "<a>&lt;]]&gt;x\t&amp;&quot;&apos;</a>\n") ≡ whole (elem (bytes "a") (text (bytes "<]]>x\t&\"'") end) end)
unfolding read_compute
entities = refl

-- white space around the root is no part of it, and white space in an element is text
pub white-around : read false (bytes " \n<a> <b/></a>\r\n") ≡ whole (elem (bytes "a") (text (bytes " ") (elem (bytes "b") end end)) end)
unfolding read_compute
white-around = refl

-- in a version's text T is a name as any other
pub version-T : read false (bytes "<T></T>") ≡ whole (elem (bytes "T") end end)
unfolding read_compute
version-T = refl

-- in an archive T has its times
pub archive-times : read true (bytes "<T t=\"1-2,4\"><a>x<T t=\"2\"><b/></T></a></T>") ≡ whole (stamp (bytes "1-2,4") (elem (bytes "a") (text (bytes "x") (stamp (bytes "2") (elem (bytes "b") end end) end)) end) end)
unfolding read_compute
archive-times = refl

-- an archive's T may stand without times
pub archive-T : read true (bytes "<T/>") ≡ whole (elem (bytes "T") end end)
unfolding read_compute
archive-T = refl

-- no root
pub nothing : read false (bytes "") ≡ broken 0
unfolding read_compute
nothing = refl

-- an element that is not closed
pub no_end : read false (bytes "<a>") ≡ broken 3
unfolding read_compute
no_end = refl

-- an end tag of another name
pub other_name : read false (bytes "<a></b>") ≡ broken 5
unfolding read_compute
other_name = refl

-- `]]>` in text
pub closed-section : read false (bytes "<a>]]></a>") ≡ broken 5
unfolding read_compute
closed-section = refl

-- an entity that is none
pub no-entity : read false (bytes "<a>&lx;</a>") ≡ broken 5
unfolding read_compute
no-entity = refl

-- two roots
pub second-root : read false (bytes "<a/><b/>") ≡ broken 4
unfolding read_compute
second-root = refl

-- text outside the root
pub text-outside : read false (bytes " x") ≡ broken 1
unfolding read_compute
text-outside = refl

-- an end tag first
pub end-first : read false (bytes "</a>") ≡ broken 1
unfolding read_compute
end-first = refl

-- white space in a tag
pub white-in-tag : read false (bytes "<a/ >") ≡ broken 3
unfolding read_compute
white-in-tag = refl

-- a name of 33 bytes
pub long-name : read false (bytes "<aaaaaaaaaaaaaaaaaaaaaaaaaaaaaaaaa>") ≡ broken 33
unfolding read_compute
long-name = refl

-- times in a version's text
pub version-times : read false (bytes "<T t=\"1\"></T>") ≡ broken 2
unfolding read_compute
version-times = refl

-- times in other quotes
pub times-quote : read true (bytes "<T t='1'></T>") ≡ broken 5
unfolding read_compute
times-quote = refl

-- white space among times
pub times-white : read true (bytes "<T t=\"1 2\"></T>") ≡ broken 7
unfolding read_compute
times-white = refl

-- an empty T with times
pub times-slash : read true (bytes "<T t=\"1\"/>") ≡ broken 8
unfolding read_compute
times-slash = refl

-- times after another name
pub times-name : read true (bytes "<Tx t=\"1\"></Tx>") ≡ broken 3
unfolding read_compute
times-name = refl

-- a T that is closed by another name
pub times-end : read true (bytes "<T t=\"1\"></a>") ≡ broken 11
unfolding read_compute
times-end = refl

-- a T that is not closed
pub times-no-end : read true (bytes "<T t=\"1\">") ≡ broken 9
unfolding read_compute
times-no-end = refl

-- line ends: LF, CR LF and CR are one content; a CR before a CR LF is a line of its own
pub lines-feed : read false (bytes "<a>x\ny\n</a>") ≡ whole (elem (bytes "a") (text (bytes "x\ny\n") end) end)
unfolding read_compute
lines-feed = refl

pub lines-pair : read false (bytes "<a>x\r\ny\r\n</a>") ≡ whole (elem (bytes "a") (text (bytes "x\ny\n") end) end)
unfolding read_compute
lines-pair = refl

pub lines-return : read false (bytes "<a>x\ry\r</a>") ≡ whole (elem (bytes "a") (text (bytes "x\ny\n") end) end)
unfolding read_compute
lines-return = refl

pub lines-mixed : read false (bytes "\r\n<a>\r\r\n&lt;\r&gt;\n\r</a>\r") ≡ whole (elem (bytes "a") (text (bytes "\n\n<\n>\n\n") end) end)
unfolding read_compute
lines-mixed = refl

-- a CR in a tag is wrong where an LF is; places count bytes as received
pub lines-tag : read false (bytes "\r\n<a\r\n></a>") ≡ broken 4
unfolding read_compute
lines-tag = refl

pub lines-place : read false (bytes "<a>\r\n\r\n]]></a>") ≡ broken 9
unfolding read_compute
lines-place = refl

pub lines-early : read false (bytes "<a>\r\n\r") ≡ broken 6
unfolding read_compute
lines-early = refl
