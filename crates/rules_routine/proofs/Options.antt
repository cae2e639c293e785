-- `None` and `Some` are two things, and `Some` keeps what it holds. Assumes nothing.
use Rattle.std.proofs.Common.{◌≡◌, None, Some}

pub none-ne-some : {A : Type 0} (x : A) → None ≡ Some x → ⊥
none-ne-some x e = cc

pub some-ne-none : {A : Type 0} (x : A) → Some x ≡ None → ⊥
some-ne-none x e = cc

pub some-injective : {A : Type 0} (x y : A) → Some x ≡ Some y → x ≡ y
some-injective x y e = cc
