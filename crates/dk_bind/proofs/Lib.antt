pub mod SchemaLemmas
pub mod RefusalLemmas
