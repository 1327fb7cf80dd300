-- Requests, the filter's two lengths, level 0 and samples below 0, run on numbers. Assumes nothing.
use Rattle.std.specs.Prelude.{◌≡◌, refl, true, false, List, [], ◌∷◌, ◌++◌, ℕ, pos, negsuc, replicate}
use Rattle.paper.specs.Answer.{Answer, done, refused, fault, told}
use Rattle.paper.specs.Numbers.{R3, R4, R5, R7, R8, F14, F21}
use Rattle.settings.specs.Cases.{set_of}
use Rattle.field.specs.Field.{weight, field_of, bcd_of, con_of, bit_of, negative}
use Rattle.frame.specs.Check.{check, enter_all, enter, enter_bits, enter_bit, fell_out}
use Rattle.frame.specs.Frame.{frame, sent, sent_byte, extended}
use Rattle.frame.specs.Read.{read_of, read_all, run, step, grown, answer_of, judged, bad_body, too_short}
use Rattle.message.specs.Message.{parts_of, form_of, address_length, body_of, address_bytes}
use Rattle.dosing.specs.Rules.{units, gates}
use Rattle.controller.specs.State.{restarted, fresh_of, with_z, with_s, with_gates, with_alarm}
use Rattle.controller.specs.Tick.{Told}
use Rattle.scale.specs.Scale.{weight_from, weight_by}
use Rattle.asking.specs.Asking.{heard_of, ours, address_of, known, bare, code_of, time_of, zero_of, ask_of, field_bytes, answer_frame}
use Rattle.readout.specs.Readout.{zeroable, may_zero}
use Rattle.controller.specs.Line.{Replied, timely, allowed, asked_of, weight_of, reply_data, reply_frame, zeroed_by, replied, replies_to, request_of}
use Rattle.controller.specs.Cases.{answers, last_of, ticked, rules}
use Rattle.controller.specs.declared.Controller.{Controller}

-- AL0, p7 4, p8 8, address 1, serial 030201h, two places: eight samples of 0, then four of 100 with inputs 1 and 3 on
unfoldable pub box : Controller
box =
    ticked (restarted (set_of (0 ∷ 10000 ∷ 100 ∷ 0 ∷ 0 ∷ 100 ∷ 4 ∷ 8 ∷ 1 ∷ 0 ∷ 0 ∷ 0 ∷ 0 ∷ 0 ∷ 1 ∷ 0x030201 ∷ 2 ∷ [])) 7 9)
    (replicate 8 (pos 0, 0) ++ replicate 4 (pos 100, 5))

-- to unfold this is to unfold every rule of a request, and of the calls before it
unfoldable requests : Unit {0}
unfolding rules box told request_of replies_to replied asked_of ask_of heard_of address_of code_of allowed timely time_of zero_of may_zero zeroable ours known bare reply_frame answer_frame reply_data field_bytes zeroed_by weight_from weight_by read_of read_all run step grown answer_of judged bad_body too_short extended parts_of form_of address_length body_of address_bytes frame sent sent_byte check enter_all enter enter_bits enter_bit fell_out field_of bcd_of con_of bit_of negative
requests = tt

abbrev asked : List ℕ → ℕ → Answer Replied
asked s room = (request_of box s room).answer

abbrev reply : ℕ → List ℕ → Answer Replied
reply k bytes = done (record { place = k; bytes = bytes })

-- C3, C2, C4, C5, C3 by the serial, C3 in a buffer that it just fills, C0
pub accepted :
    (asked (0xFF ∷ 0x01 ∷ 0xC3 ∷ 0xE3 ∷ 0xFF ∷ 0xFF ∷ []) 20 ≡ reply 5 (0xFF ∷ 0x01 ∷ 0xC3 ∷ 0x50 ∷ 0x00 ∷ 0x00 ∷ 0x02 ∷ 0x7F ∷ 0xFF ∷ 0xFF ∷ []))
    × (asked (0xFF ∷ 0x01 ∷ 0xC2 ∷ 0x8A ∷ 0xFF ∷ 0xFF ∷ []) 20 ≡ reply 5 (0xFF ∷ 0x01 ∷ 0xC2 ∷ 0x00 ∷ 0x01 ∷ 0x00 ∷ 0x02 ∷ 0x19 ∷ 0xFF ∷ 0xFF ∷ []))
    × (asked (0xFF ∷ 0x01 ∷ 0xC4 ∷ 0x95 ∷ 0xFF ∷ 0xFF ∷ []) 20 ≡ reply 5 (0xFF ∷ 0x01 ∷ 0xC4 ∷ 0x05 ∷ 0x3A ∷ 0xFF ∷ 0xFF ∷ []))
    × (asked (0xFF ∷ 0x01 ∷ 0xC5 ∷ 0xFC ∷ 0xFF ∷ 0xFF ∷ []) 20 ≡ reply 5 (0xFF ∷ 0x01 ∷ 0xC5 ∷ 0x00 ∷ 0x9D ∷ 0xFF ∷ 0xFF ∷ []))
    × (asked (0xFF ∷ 0x00 ∷ 0x01 ∷ 0x02 ∷ 0x03 ∷ 0xC3 ∷ 0xFF ∷ 0xFE ∷ 0xFF ∷ 0xFF ∷ []) 20 ≡ reply 9 (0xFF ∷ 0x00 ∷ 0x01 ∷ 0x02 ∷ 0x03 ∷ 0xC3 ∷ 0x50 ∷ 0x00 ∷ 0x00 ∷ 0x02 ∷ 0x13 ∷ 0xFF ∷ 0xFF ∷ []))
    × (asked (0xFF ∷ 0x01 ∷ 0xC3 ∷ 0xE3 ∷ 0xFF ∷ 0xFF ∷ []) 10 ≡ reply 5 (0xFF ∷ 0x01 ∷ 0xC3 ∷ 0x50 ∷ 0x00 ∷ 0x00 ∷ 0x02 ∷ 0x7F ∷ 0xFF ∷ 0xFF ∷ []))
    × (asked (0xFF ∷ 0x01 ∷ 0xC0 ∷ 0x58 ∷ 0xFF ∷ 0xFF ∷ []) 6 ≡ reply 5 (0xFF ∷ 0x01 ∷ 0xC0 ∷ 0x58 ∷ 0xFF ∷ 0xFF ∷ []))
unfolding requests
accepted = (refl, refl, refl, refl, refl, refl, refl)

-- another address, another operation code, data, a buffer one byte too short for C3 and for C0
pub turned_down :
    (asked (0xFF ∷ 0x02 ∷ 0xC3 ∷ 0xE6 ∷ 0xFF ∷ 0xFF ∷ []) 20 ≡ refused R5 (5 ∷ []))
    × (asked (0xFF ∷ 0x01 ∷ 0xC1 ∷ 0x31 ∷ 0xFF ∷ 0xFF ∷ []) 20 ≡ refused R7 (5 ∷ []))
    × (asked (0xFF ∷ 0x01 ∷ 0xC3 ∷ 0x07 ∷ 0xE1 ∷ 0xFF ∷ 0xFF ∷ []) 20 ≡ refused R7 (6 ∷ []))
    × (asked (0xFF ∷ 0x01 ∷ 0xC3 ∷ 0xE3 ∷ 0xFF ∷ 0xFF ∷ []) 9 ≡ refused R8 (5 ∷ []))
    × (asked (0xFF ∷ 0x01 ∷ 0xC0 ∷ 0x58 ∷ 0xFF ∷ 0xFF ∷ []) 5 ≡ refused R8 (5 ∷ []))
unfolding requests
turned_down = (refl, refl, refl, refl, refl)

-- after C0 the weight is 0
pub zeroed-by-C0 : (request_of (request_of box (0xFF ∷ 0x01 ∷ 0xC0 ∷ 0x58 ∷ 0xFF ∷ 0xFF ∷ []) 6).next (0xFF ∷ 0x01 ∷ 0xC3 ∷ 0xE3 ∷ 0xFF ∷ 0xFF ∷ []) 20).answer ≡ reply 5 (0xFF ∷ 0x01 ∷ 0xC3 ∷ 0x00 ∷ 0x00 ∷ 0x00 ∷ 0x02 ∷ 0x06 ∷ 0xFF ∷ 0xFF ∷ [])
unfolding requests
zeroed-by-C0 = refl

-- C0 to address 1; its reply is the same bytes
abbrev C0 : List ℕ
C0 = 0xFF ∷ 0x01 ∷ 0xC0 ∷ 0x58 ∷ 0xFF ∷ 0xFF ∷ []

-- three samples of 40 and a wild one of 900
abbrev shaken : Controller
shaken = ticked fresh_of (replicate 3 (pos 40, 0) ++ (pos 900, 0) ∷ [])

-- C0 is allowed and zeroes by the mean that leaves the wild sample out
pub zeroed-shaken : ((request_of shaken C0 6).answer ≡ reply 5 C0) × ((request_of shaken C0 6).next.z ≡ units (pos 40))
unfolding requests
zeroed-shaken = (refl, refl)

-- AL2 with D 500 and M 800
abbrev al2 : Controller
al2 = restarted (set_of (2 ∷ 1000 ∷ 500 ∷ 100 ∷ 20 ∷ 800 ∷ 4 ∷ 8 ∷ 1 ∷ 0 ∷ 0 ∷ 0 ∷ 0 ∷ 0 ∷ 1 ∷ 0 ∷ 0 ∷ [])) 0 0

abbrev nothing : Answer Told
nothing = refused 0 []

abbrev outputs : ℕ → Answer Told
outputs n = done (record { outputs = n; doses = [] })

-- AL1 at level 0: shut outputs are matched by inputs that are on
abbrev low : Controller
low = restarted (set_of (1 ∷ 1000 ∷ 500 ∷ 100 ∷ 20 ∷ 50 ∷ 4 ∷ 8 ∷ 1 ∷ 0 ∷ 0 ∷ 0 ∷ 0 ∷ 0 ∷ 1 ∷ 0 ∷ 0 ∷ [])) 0 0

-- while output 1 is open the filter is p7: two of 200 after zeros are 100 over four samples; -900,000 is a sample and -900,001 is F21; 63 mismatches of channel 2 go on and 64 are F14
pub ticks :
    (last_of nothing (answers box (replicate 8 (pos 0, 0) ++ (pos 0, 8) ∷ replicate 2 (pos 200, 8))) ≡ outputs 0)
    × (answers fresh_of ((negsuc 899999, 0) ∷ (negsuc 0, 0) ∷ (negsuc 900000, 0) ∷ []) ≡ outputs 0 ∷ outputs 0 ∷ fault F21 [] ∷ [])
    × (last_of nothing (answers low (replicate 63 (pos 0, 5))) ≡ outputs 0)
    × (last_of nothing (answers low (replicate 64 (pos 0, 5))) ≡ fault F14 (2 ∷ []))
    × (last_of nothing (answers low (replicate 64 (pos 0, 7))) ≡ outputs 0)
unfolding requests
ticks = (refl, refl, refl, refl, refl)

-- another serial, the operation codes on both sides of C2..C5; the order R5, R7, R3, R4, R8
pub order :
    (asked (0xFF ∷ 0x00 ∷ 0x02 ∷ 0x02 ∷ 0x03 ∷ 0xC3 ∷ 0xF0 ∷ 0xFF ∷ 0xFF ∷ []) 20 ≡ refused R5 (8 ∷ []))
    × (asked (0xFF ∷ 0x01 ∷ 0xC6 ∷ 0x47 ∷ 0xFF ∷ 0xFF ∷ []) 20 ≡ refused R7 (5 ∷ []))
    × (asked (0xFF ∷ 0x01 ∷ 0xBF ∷ 0xCB ∷ 0xFF ∷ 0xFF ∷ []) 20 ≡ refused R7 (5 ∷ []))
    -- another address and another operation code
    × (asked (0xFF ∷ 0x02 ∷ 0xC1 ∷ 0x34 ∷ 0xFF ∷ 0xFF ∷ []) 0 ≡ refused R5 (5 ∷ []))
    -- C0 in AL0's Fill: with data, and without
    × ((request_of (ticked fresh_of ((pos 0, 8) ∷ [])) (0xFF ∷ 0x01 ∷ 0xC0 ∷ 0x07 ∷ 0xE4 ∷ 0xFF ∷ 0xFF ∷ []) 0).answer ≡ refused R7 (6 ∷ []))
    × ((request_of (ticked fresh_of ((pos 0, 8) ∷ [])) C0 0).answer ≡ refused R3 (5 ∷ []))
    -- C0 in a fault, in AL2's Load, in AL2's Ready, with no sample, and at F = M
    × ((request_of (ticked fresh_of ((pos 0, 0) ∷ (pos 900001, 0) ∷ [])) C0 6).answer ≡ refused R3 (5 ∷ []))
    × ((request_of (ticked al2 ((pos 0, 0) ∷ [])) C0 6).answer ≡ refused R3 (5 ∷ []))
    × ((request_of (ticked al2 ((pos 500, 0) ∷ [])) C0 0).answer ≡ refused R4 (5 ∷ []))
    × ((request_of fresh_of C0 6).answer ≡ refused R4 (5 ∷ []))
    × ((request_of (ticked fresh_of ((pos 100, 0) ∷ [])) C0 6).answer ≡ refused R4 (5 ∷ []))
    × ((request_of (ticked fresh_of ((pos 99, 0) ∷ [])) C0 5).answer ≡ refused R8 (5 ∷ []))
    × ((request_of (ticked fresh_of ((pos 99, 0) ∷ [])) C0 6).answer ≡ reply 5 C0)
unfolding requests
order = (refl, refl, refl, refl, refl, refl, refl, refl, refl, refl, refl, refl, refl)

-- with no sample held weight and flags are 0 and the point is sent; stable by S; over by the weight of this reply; below 0; in a fault both flags are as before
pub weights :
    (weight_of (restarted (set_of (0 ∷ 10000 ∷ 100 ∷ 0 ∷ 0 ∷ 100 ∷ 4 ∷ 8 ∷ 1 ∷ 0 ∷ 0 ∷ 0 ∷ 0 ∷ 0 ∷ 1 ∷ 0 ∷ 2 ∷ [])) 0 0) 8 ≡ weight (pos 0) false false 2)
    × (weight_of (with_z (units (pos 5)) (with_s 64 fresh_of)) 4 ≡ weight (pos 0) false false 0)
    × (weight_of (ticked fresh_of (replicate 64 (pos 7, 0))) 4 ≡ weight (pos 7) false false 0)
    × (weight_of (ticked fresh_of (replicate 65 (pos 7, 0))) 4 ≡ weight (pos 7) true false 0)
    × (weight_of (ticked fresh_of (replicate 65 (pos 7, 0) ++ (pos 900001, 0) ∷ [])) 4 ≡ weight (pos 7) true false 0)
    × (weight_of (ticked box (replicate 4 (pos 19000, 5))) 8 ≡ weight (pos 9550) false false 2)
    × (weight_of (ticked box (replicate 4 (pos 19000, 5))) 4 ≡ weight (pos 19000) false true 2)
    × (weight_of (ticked fresh_of ((pos 10009, 0) ∷ [])) 4 ≡ weight (pos 10009) false false 0)
    × (weight_of (ticked fresh_of ((pos 10010, 0) ∷ [])) 4 ≡ weight (pos 10010) false true 0)
    × (weight_of (ticked fresh_of ((negsuc 4, 0) ∷ [])) 4 ≡ weight (negsuc 4) false false 0)
unfolding requests
weights = (refl, refl, refl, refl, refl, refl, refl, refl, refl, refl)

-- C5: output i is bit i-1; C4 and C5 after a restart, and after a sample outside
pub bytes-sent :
    (reply_data (with_gates (gates true false true) (with_alarm true fresh_of)) 0xC5 ≡ 13 ∷ [])
    × (reply_data (with_gates (gates false true false) fresh_of) 0xC5 ≡ 2 ∷ [])
    × (reply_data fresh_of 0xC5 ≡ 0 ∷ [])
    × (reply_data fresh_of 0xC4 ≡ 0 ∷ [])
    × (reply_data (ticked fresh_of ((pos 900001, 3) ∷ [])) 0xC5 ≡ 8 ∷ [])
    × (reply_data (ticked fresh_of ((pos 900001, 3) ∷ [])) 0xC4 ≡ 3 ∷ [])
unfolding requests
bytes-sent = (refl, refl, refl, refl, refl, refl)
