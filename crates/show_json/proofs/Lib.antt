pub mod MemberLemmas
