-- Reading and writing: what is written is read again, what is read is tidy, and the written form tells forests apart.
use Rattle.std.specs.Prelude.{◌≡◌, Bool}
use Rattle.std.proofs.Common.{ap, sym, ◌∙◌}
use Rattle.xml.specs.Bytes.{Bytes}
use Rattle.xml.specs.Forest.{Forest, write, Tidy, Root}
use Rattle.xml.specs.Read.{whole, read}
use Rattle.xml.specs.Spelled.{spelled-tidy, write-spells}
use Rattle.xml.specs.Complete.{read-complete}
use Rattle.xml.specs.Sound.{read-sound}

pub read-write : (a : Bool) (f : Forest) → Root f → Tidy a f → read a (write f) ≡ whole f
read-write a f r t = read-complete a (write f) f (write-spells a f t r)

pub read-tidy : (a : Bool) (s : Bytes) (f : Forest) → read a s ≡ whole f → Tidy a f × Root f
read-tidy a s f e = spelled-tidy (read-sound a s f e)

pub same-written : (a : Bool) (f g : Forest) → Tidy a f → Root f → Tidy a g → Root g → write f ≡ write g → f ≡ g
same-written a f g t r u q e =
    let h : whole f ≡ whole g = sym (read-write a f r t) ∙ ap (read a) e ∙ read-write a g q u in
    cc
