-- The bytes that are left.
use Rattle.std.proofs.Common.{◌≡◌, ℕ, ◌+◌, [], ◌∷◌, length, length-append, List, true, chars, refl, sym, ap, encode_utf8_all}
use Rattle.std.proofs.lemmas.Str.{length-encode, encodes-chars, IsUtf8-from_is_utf8}
use Rattle.std.specs.Char.{len_utf8, encode_utf8}
use Rattle.std.specs.Str.{is_utf8}
use Rattle.own_tree.specs.Characters.{Text, bytes_of}

pub bytes_of_cons : (c : ℕ) (cs : Text) → bytes_of (c ∷ cs) ≡ len_utf8 c + bytes_of cs
unfolding bytes_of
bytes_of_cons c cs = rw (length-append (encode_utf8 c) (encode_utf8_all cs), length-encode c) refl

pub bytes_of-nil : bytes_of [] ≡ 0
unfolding bytes_of
bytes_of-nil = refl

pub bytes_of_chars : (bytes : List ℕ) → is_utf8 bytes ≡ true → length bytes ≡ bytes_of (chars bytes)
unfolding bytes_of
bytes_of_chars bytes e = ap length (sym (encodes-chars bytes (IsUtf8-from_is_utf8 bytes e)))
