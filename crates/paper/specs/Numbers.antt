-- The numbers of refusal and of faults (document 01, "Numbers of refusal", "One tick"). Assumes nothing.
use Rattle.std.specs.Prelude.{◌≡◌, refl, [], ◌∷◌, ℕ}

-- inputs above 15
abbrev pub R1 : ℕ
R1 = 1

-- a setting out of range; names it
abbrev pub R2 : ℕ
R2 = 2

-- settings, counter reset or C0 when not in Ready
abbrev pub R3 : ℕ
R3 = 3

-- C0 in AL2 or AL3, with no sample, or without -M < F < M
abbrev pub R4 : ℕ
R4 = 4

-- address not ours
abbrev pub R5 : ℕ
R5 = 5

-- finished body under 3 bytes (6 if extended), or check not 0
abbrev pub R6 : ℕ
R6 = 6

-- other operation code, or data present
abbrev pub R7 : ℕ
R7 = 7

-- reply buffer too short
abbrev pub R8 : ℕ
R8 = 8

-- no finished frame
abbrev pub R9 : ℕ
R9 = 9

-- malformed line or value out of range, also on writing
abbrev pub R10 : ℕ
R10 = 10

-- hour order broken
abbrev pub R11 : ℕ
R11 = 11

-- a line's hour is 744 or more above the first line's
abbrev pub R12 : ℕ
R12 = 12

-- journal over 65,536 bytes
abbrev pub R13 : ℕ
R13 = 13

-- body to frame begins with FF or FE, or is not 2..254 bytes (5..254 if it begins with 0) before its check
abbrev pub R14 : ℕ
R14 = 14

-- stored count above 999,999 or total above 999,999,999
abbrev pub R15 : ℕ
R15 = 15

-- weight field read with a digit above 9; to be written with a weight beyond six digits or a point above 7
abbrev pub R16 : ℕ
R16 = 16

-- a MODBUS frame with a bad CRC, a bad length or another address, or anything but a good write sent to address 0 (document 02)
abbrev pub R17 : ℕ
R17 = 17

-- a D line with a product other than 0, which has no place in an old journal (document 02)
abbrev pub R18 : ℕ
R18 = 18

-- an output number outside 1..4 (document 02)
abbrev pub R19 : ℕ
R19 = 19

-- a week's first hour that is malformed or above 9,999,832 (document 02)
abbrev pub R21 : ℕ
R21 = 21

-- a run of 64 mismatches of an input with its output
abbrev pub F14 : ℕ
F14 = 14

-- a sample outside -900,000..900,000
abbrev pub F21 : ℕ
F21 = 21

-- each refusal has the number of its row, each fault the number of its name
pub numbers :
    R1 ∷ R2 ∷ R3 ∷ R4 ∷ R5 ∷ R6 ∷ R7 ∷ R8 ∷ R9 ∷ R10 ∷ R11 ∷ R12 ∷ R13 ∷ R14 ∷ R15 ∷ R16 ∷ R17 ∷ R18 ∷ R19 ∷ R21 ∷ F14 ∷ F21 ∷ []
    ≡ 1 ∷ 2 ∷ 3 ∷ 4 ∷ 5 ∷ 6 ∷ 7 ∷ 8 ∷ 9 ∷ 10 ∷ 11 ∷ 12 ∷ 13 ∷ 14 ∷ 15 ∷ 16 ∷ 17 ∷ 18 ∷ 19 ∷ 21 ∷ 14 ∷ 21 ∷ []
numbers = refl
