-- The codes of the judgements of the typing, and what is said where one is false.
use Rattle.std.specs.Prelude.{ℕ, ◌==◌, nat_lt, if◌then◌else◌, codes}
use Rattle.own_report.specs.Lines.{Said, said_as}

-- of the types of a text
abbrev pub types_said : ℕ → Said
types_said code =
    if code == 1 then said_as (codes "T01") (codes "unknown type")
    else if code == 2 then said_as (codes "T02") (codes "name declared twice")
    else if code == 3 then said_as (codes "T03") (codes "type contains itself")
    else if code == 4 then said_as (codes "T04") (codes "noncopyable part in a copyable type")
    else if code == 5 then said_as (codes "T05") (codes "deinit or init is not allowed here")
    else if code == 6 then said_as (codes "T06") (codes "parameter modifier")
    else if code == 7 then said_as (codes "T07") (codes "method modifier")
    else said_as (codes "T08") (codes "reserved name or no main")

-- of its bodies
abbrev pub bodies_said : ℕ → Said
bodies_said code =
    if code == 10 then said_as (codes "T10") (codes "unknown name")
    else if code == 11 then said_as (codes "T11") (codes "unknown member")
    else if code == 12 then said_as (codes "T12") (codes "type differs")
    else if code == 13 then said_as (codes "T13") (codes "arguments differ")
    else if code == 14 then said_as (codes "T14") (codes "literal out of range")
    else if code == 15 then said_as (codes "T15") (codes "operands")
    else if code == 16 then said_as (codes "T16") (codes "not a place")
    else if code == 18 then said_as (codes "T18") (codes "return value")
    else if code == 19 then said_as (codes "T19") (codes "jump outside a loop")
    else if code == 20 then said_as (codes "T20") (codes "switch does not cover")
    else if code == 21 then said_as (codes "T21") (codes "pattern does not fit")
    else if code == 22 then said_as (codes "T22") (codes "discard is not allowed here")
    else if code == 23 then said_as (codes "T23") (codes "unused value")
    else if code == 24 then said_as (codes "T24") (codes "function as a value")
    else if code == 25 then said_as (codes "T25") (codes "no type or no value")
    else if code == 26 then said_as (codes "T26") (codes "whole self in init")
    else if code == 27 then said_as (codes "T27") (codes "part of a temporary")
    else if code == 28 then said_as (codes "T28") (codes "consume of a copyable part")
    else if code == 29 then said_as (codes "T29") (codes "print item")
    else if code == 31 then said_as (codes "T31") (codes "binding in several patterns")
    else said_as (codes "T32") (codes "no value")

abbrev pub typing_said : ℕ → Said
typing_said code = if nat_lt code 10 then types_said code else bodies_said code
