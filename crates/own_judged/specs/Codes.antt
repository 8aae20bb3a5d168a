-- The judgements on the bodies of a text, by the numbers under which a refusal names them. T20, that the patterns of a
-- `switch` cover each value of its subject, has a form of its own in a refusal, so it has no number here.
use Rattle.std.specs.Prelude.{ℕ}

-- a name has a binding, a member, a function or a declared type
abbrev pub T10 : ℕ
T10 = 10

-- the type has that field, method or case
abbrev pub T11 : ℕ
T11 = 11

-- the value has the type that is expected; conditions are `Bool`, and the bounds of a `for` are `Int`
abbrev pub T12 : ℕ
T12 = 12

-- arguments agree with the parameters; a closure has as many names as its type has parameters
abbrev pub T13 : ℕ
T13 = 13

-- 9,223,372,036,854,775,808 stands only in a negative literal
abbrev pub T14 : ℕ
T14 = 14

-- arithmetic and order take two `Int`, `==` and `!=` two `Int` or two `Bool`, and `!`, `&&` and `||` take `Bool`
abbrev pub T15 : ℕ
T15 = 15

-- `&` (SE-0377), the left side of an assignment and `consume` (SE-0366) name a place
abbrev pub T16 : ℕ
T16 = 16

-- `return` has a value exactly where the body has a result
abbrev pub T18 : ℕ
T18 = 18

-- `break` stands in a loop or a `switch`, and `continue` in a loop, of the same body
abbrev pub T19 : ℕ
T19 = 19

-- a pattern fits its type, with as many parts as the case has payloads
abbrev pub T21 : ℕ
T21 = 21

-- `discard self` stands in a consuming method of a struct with a `deinit` (SE-0390) whose fields are all copyable, and
-- not in a closure
abbrev pub T22 : ℕ
T22 = 22

-- an expression statement is a call or a `consume`, or is the one statement of a body with a result (SE-0255)
abbrev pub T23 : ℕ
T23 = 23

-- a closure stands only as an argument for a parameter of function type; such a parameter is only called or passed on;
-- functions and methods are only called; but for the written type of a local, the name of a struct is only called, and
-- the name of an enum stands only before `.` and the name of a case
abbrev pub T24 : ℕ
T24 = 24

-- a `let` has a value; a `var` has a value or a type, and with `_` for its name a value; `.name` has an expected type
abbrev pub T25 : ℕ
T25 = 25

-- in `init`, `self` stands only before a field, and not in a closure
abbrev pub T26 : ℕ
T26 = 26

-- a field of a value that is no place is copyable; no mutating method is called on such a value
abbrev pub T27 : ℕ
T27 = 27

-- `consume` of a copyable path has no fields
abbrev pub T28 : ℕ
T28 = 28

-- a text stands only as an item of `print`; the items of `print` are `Int`, `Bool` or texts
abbrev pub T29 : ℕ
T29 = 29

-- a clause with several patterns binds no name
abbrev pub T31 : ℕ
T31 = 31

-- a call without a result is no value
abbrev pub T32 : ℕ
T32 = 32
