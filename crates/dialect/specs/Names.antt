-- The names of messages and fields (MAVLink guide, XML Schema: message and field names).
use Rattle.std.specs.Prelude.{ℕ, ◌==◌, ◌&&◌, ◌||◌, nat_le, Bool, List, length}
use Rattle.std.specs.List.{list_all}
use Rattle.dialect.specs.Types.{is_digit}

abbrev pub is_upper : ℕ → Bool
is_upper byte = nat_le 65 byte && nat_le byte 90

abbrev pub is_lower : ℕ → Bool
is_lower byte = nat_le 97 byte && nat_le byte 122

-- capital letters, digits and `_`
abbrev pub is_message_name_byte : ℕ → Bool
is_message_name_byte byte = is_upper byte || is_digit byte || byte == 95

-- letters, digits and `_`
abbrev pub is_field_name_byte : ℕ → Bool
is_field_name_byte byte = is_lower byte || is_message_name_byte byte

-- 1 to 64 characters of some
abbrev pub is_name_of : (ℕ → Bool) → List ℕ → Bool
is_name_of test name = nat_le 1 (length name) && nat_le (length name) 64 && list_all test name

abbrev pub is_message_name : List ℕ → Bool
is_message_name name = is_name_of is_message_name_byte name

abbrev pub is_field_name : List ℕ → Bool
is_field_name name = is_name_of is_field_name_byte name
