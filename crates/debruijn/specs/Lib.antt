pub mod EdgeTables
